-- The modules of access that contracts and proofs cite: the order of records, the order check, lookup. Assumes nothing.
pub mod Order
pub mod Verify
pub mod Lookup
pub mod Steps
pub mod Sorted
pub mod Finds
pub mod Comes
pub mod Marked
