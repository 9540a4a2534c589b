-- Entries, between the grammar and the definitions that the readers' contracts cite. To be believed: Said (what each answer says, and the premises), with the rendering in
-- Rendering, and what the accessors show of it in Fields and Shown. The way to the claims begins here: bytes at a place (Place), the parts of an entry (Parts), one entry
-- (Measure), how far a run reaches (Reach). The claims stand in proofs/. Assumes nothing.
pub mod Said
pub mod Rendering
pub mod Place
pub mod Parts
pub mod Measure
pub mod Fields
pub mod Shown
pub mod Reach
