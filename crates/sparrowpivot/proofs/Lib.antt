-- What the proofs of sparrowpivot cite. Assumes nothing.
pub mod Laws
