-- The modules of list_text that proofs cite.
pub mod Laws
