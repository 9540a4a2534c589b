-- What the proofs of siblings cite. Assumes nothing.
pub mod Laws
