-- What the proofs of decode cite. Assumes nothing.
pub mod Laws
