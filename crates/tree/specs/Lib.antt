-- The modules of tree: the definition of the reading, what it leaves as it was, what it stores, 01's marked page, and the laws that proofs cite. Assumes nothing.
pub mod Tree
pub mod Frame
pub mod Inside
pub mod Distinct
pub mod Tally
pub mod Walked
pub mod Stored
pub mod Marked
pub mod Made
