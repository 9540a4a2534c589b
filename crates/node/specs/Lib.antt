-- The modules of node that contracts and proofs cite: a node's head as the file spells it, its bytes in the store, and the laws of both. Assumes nothing.
pub mod Head
pub mod Store
pub mod Spelled
pub mod Marked
pub mod Laws
pub mod Parents
