-- The modules of write_entries that contracts and proofs cite: the entries, how long they are, and what is put where there is room for all. Assumes nothing.
pub mod Entries
pub mod Size
pub mod Fitting
pub mod Made
