-- The modules of proper that contracts and proofs cite: the test of a node table, what it says, and what one pass over a node's children tells. Assumes nothing.
pub mod Proper
pub mod Table
pub mod Walked
