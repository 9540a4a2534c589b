-- The numbers of the index format. Assumes nothing.
pub mod Format
