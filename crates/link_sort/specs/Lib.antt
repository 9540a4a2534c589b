-- The modules of link_sort that contracts and proofs cite: what the code does to the store, lists in a store and their order, the merge, the sort, the walk, and
-- that together they answer whether siblings differ. Assumes nothing.
pub mod Runs
pub mod Enough
pub mod Order
pub mod Linked
pub mod Merge
pub mod Sorting
pub mod Walked
pub mod Folder
pub mod Listing
pub mod Answer
pub mod Count
