-- The modules of refusal that contracts and proofs cite.
pub mod Refusal
pub mod Bit
