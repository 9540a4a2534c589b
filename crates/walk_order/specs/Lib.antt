-- The modules of walk_order that contracts and proofs cite: tables in walk order and the way to a child, what stands below a node, and what the way finds.
-- Assumes nothing.
pub mod Walk
pub mod Below
pub mod Child
pub mod Kid
pub mod Depth
