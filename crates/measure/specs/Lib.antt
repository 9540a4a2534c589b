-- The modules of measure that contracts and proofs cite: the definition of a measured entry, its laws, and what it says of its place. Assumes nothing.
pub mod Entry
pub mod Numbers
pub mod Inside
pub mod Settled
pub mod Open
pub mod Made
