-- The modules of list_text that contracts and proofs cite.
pub mod Listed
pub mod Fits
