-- The modules of claims_c: `Terms` and `EndToEnd` are to be read. `Numbers` and `Writing` go from what a call tells back to its answer, `Rows` and `Tables` from what a meaning's tables show to what is told
-- of them, `Searching` from there to order and lookup, `ReadBack` from a call that wrote to one that reads.
pub mod Terms
pub mod Numbers
pub mod Writing
pub mod Rows
pub mod Tables
pub mod Searching
pub mod ReadBack
pub mod EndToEnd
