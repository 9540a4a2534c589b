-- What the proofs of measure cite. Assumes nothing.
pub mod Laws
