-- What the proofs of wire cite. Assumes nothing.
pub mod Laws
