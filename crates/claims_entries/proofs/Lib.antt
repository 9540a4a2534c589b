-- THE CLAIMS on entries are in Claims and Shown. The others are the way there: a run of entries (Run), that a rendering shows its meaning (Fields); and an example (Example).
-- Assumes nothing.
pub mod Run
pub mod Fields
pub mod Claims
pub mod Shown
pub mod Example
