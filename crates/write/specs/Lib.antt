-- The modules of write that contracts and proofs cite: the whole file, its parts, and the laws of the list of extensions. Assumes nothing.
pub mod File
pub mod Parts
pub mod Extensions
pub mod Made
