-- The modules of extension that contracts and proofs cite. `Signatures` has the format's numbers, `Iter` the walk from extension to extension, `Decode` the reader's exact
-- filling, `IndexEntryOffsetTable` the table of blocks, `EndOfIndexEntry` the offset at the file's end. `Theorems` says what a step and a run are, and `Marked` has worked
-- examples. In proofs/, `Filling` says what the reader's answers say, `Telling` what EOIE's says. Assumes nothing.
pub mod Signatures
pub mod Iter
pub mod Decode
pub mod IndexEntryOffsetTable
pub mod EndOfIndexEntry
pub mod Theorems
pub mod Marked
pub mod Made
