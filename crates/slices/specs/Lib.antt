-- The modules of slices that contracts and proofs cite.
pub mod Bytes
pub mod Laws
