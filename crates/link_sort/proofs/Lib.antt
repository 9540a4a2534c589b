-- The proofs' own laws. Assumes nothing.
pub mod Laws
