-- What the proofs of tree cite. Assumes nothing.
pub mod Laws
