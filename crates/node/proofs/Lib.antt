-- What the proofs of node cite. Assumes nothing.
pub mod Laws
