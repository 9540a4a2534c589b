-- The modules of claims: `Premises` and `Said` are to be read; `Header` and `Reading` prove that the reader's answer is the one said; `Claims` has the theorems,
-- `Shown` what the accessors show then, by `First`, and `SpelledTree` the premise on the tree in the words of the demand. `Marked` has the marked pages of 01, as one
-- statement of the definitions that the contracts cite, and `MarkedSpelled` the same pages, as one statement of the grammar. `Example` and `TreeExample` meet the premises. The theorems
-- are over every kind; pages and examples are files of SHA-1.
pub mod Premises
pub mod Header
pub mod Said
pub mod Reading
pub mod Claims
pub mod First
pub mod Shown
pub mod SpelledTree
pub mod Marked
pub mod MarkedSpelled
pub mod Example
pub mod TreeExample
