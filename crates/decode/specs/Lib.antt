-- The modules of decode that contracts and proofs cite: the header, the bounds, and the run of entries. Assumes nothing.
pub mod Header
pub mod Bounds
pub mod Entries
pub mod Stores
pub mod Made
