-- The modules of lines that proofs cite.
pub mod Laws
