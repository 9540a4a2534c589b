-- The modules of tree_write that contracts and proofs cite: the order of nodes, a tree's bytes, the children and their runs, what stands below a node. Assumes nothing.
pub mod Order
pub mod Tree
pub mod Kids
pub mod Children
pub mod Span
pub mod Flat
pub mod Runs
pub mod Spine
pub mod Back
