-- The modules of claims_settled: `Law` says what it means that a contract settles a call, and has the one law; the others prove it of each callable function (`tests/settled` sees to it
-- that none is left out). In the tuples of the proofs the answer stands first, and then one place for each parameter: what it is left with if it is lent to be written, else `tt`. `Calls` and
-- `Exports` tie each function that a demand speaks of to the definition that the claims are about. `Refusals` has what each refusal leaves, number by number; `Whole` that the listing is put whole.
pub mod Law
pub mod Calls
pub mod Exports
pub mod Leaves
pub mod Reading
pub mod Searching
pub mod Writing
pub mod Listing
pub mod Library
pub mod Refusals
pub mod Whole
