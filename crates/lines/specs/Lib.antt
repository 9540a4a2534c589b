-- The modules of lines that contracts and proofs cite.
pub mod Lines
pub mod Written
pub mod Examples
