-- What the proofs of file cite. Assumes nothing.
pub mod Laws
