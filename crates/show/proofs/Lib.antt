-- What the proofs of show cite. Assumes nothing.
mod Laws
