-- The module of sums that contracts and proofs cite. Assumes nothing.
pub mod Cap
