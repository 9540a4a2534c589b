-- What the proofs of entry cite. Assumes nothing.
pub mod Laws
