-- The modules of siblings that contracts and proofs cite: that the names of a node's children differ, names in order, and the laws of both. Assumes nothing.
pub mod Siblings
pub mod Rising
pub mod InOrder
