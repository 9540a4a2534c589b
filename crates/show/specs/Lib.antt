-- What the contracts of show cite. Assumes nothing.
pub mod Hex
