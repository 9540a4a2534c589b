-- What the proofs of replay cite. Assumes nothing.
pub mod Laws
