-- What follows from the grammar of specs/: what decides it (Decide..), that it spells at most one meaning (Unique), a file by its places (Space), that there is one fault at most
-- (Fault), how far a walk reaches (Reach), and files that are spelled and files that are not (Examples, EdgeExamples, WalkExamples). Assumes nothing.
pub mod DecideEntry
pub mod DecideExtension
pub mod DecideTree
pub mod DecideFile
pub mod Unique
pub mod Space
pub mod Fault
pub mod Reach
pub mod Examples
pub mod EdgeExamples
pub mod WalkExamples
