-- The modules of entry that contracts and proofs cite: flags, the layout, mode, where paths lie, the record store, stat, and their laws; what was put is found. Assumes nothing.
pub mod Flags
pub mod Layout
pub mod Mode
pub mod Paths
pub mod Record
pub mod Stat
pub mod Laws
pub mod Found
