-- What the proofs of access cite. Assumes nothing.
pub mod Laws
