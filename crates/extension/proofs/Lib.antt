-- What the proofs of extension share (`Laws`), what the reader's answers say (`Filling`), and what EOIE's says (`Telling`). Assumes nothing.
pub mod Laws
pub mod Filling
pub mod Telling
