-- The Git index file's grammar. To be believed are short files: relations of bytes and meaning that name no reader (Number, Entry, Extension, Tree, File), how far a
-- walk of a tree comes (Walk), and where extensions go wrong (Fault). What decides numbers (DecideNumber), and the walk by its nodes (Descent), follow from them. The rest of what
-- follows stands in proofs/. Assumes nothing.
pub mod Number
pub mod Entry
pub mod Extension
pub mod Tree
pub mod File
pub mod Walk
pub mod Fault
pub mod Descent
pub mod DecideNumber
