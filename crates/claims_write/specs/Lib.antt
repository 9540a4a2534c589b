-- The modules of claims_write. To be read: `Meaning`, `Sizes`, `SameTree`, the words at the start of `Answers`, `Asked` and `ProperTable`, and the theorems of `Answers` (what the writer answers,
-- and when), `Asked` (what must be there), `Spelled` (what is written is spelled), `Trees` (and so is the tree), `Eoie` (EOIE is found), `Claims` (demand 2, what is written reads back), `TreeBack` (and so
-- does the tree), `Whole`, `Needed` (each premise is needed) and `Stored` (what was read in order is in file order). `Entries`, `Extensions`, `Tree`, `Count`, `Lengths`, `Forest`, `Kept` and `Reading` lead there.
-- The theorems are over every kind; examples, and that each premise is needed, are of SHA-1.
pub mod Meaning
pub mod Entries
pub mod Extensions
pub mod Spelled
pub mod Tree
pub mod Count
pub mod ProperTable
pub mod Listed
pub mod Stored
pub mod Trees
pub mod Eoie
pub mod Kept
pub mod Reading
pub mod Claims
pub mod Sizes
pub mod Lengths
pub mod Answers
pub mod Asked
pub mod SameTree
pub mod Forest
pub mod TreeBack
pub mod Whole
pub mod Example
pub mod Needed
