-- The modules of sparrowpivot that contracts and proofs cite: `Told` is what any function comes to, the five others say it for each theme. Assumes nothing.
pub mod Told
pub mod Reading
pub mod Writing
pub mod Searching
pub mod Extensions
pub mod Tables
