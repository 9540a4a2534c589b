-- The crate's definitions and what holds of them. `Sha1` is FIPS 180-4 alone, and names nothing of the code; `Pieces` is a digest whose message comes
-- in pieces; `Window` is what the contracts of the rounds say; `Schedule` and `Theorems` are laws; `Length` says how long a
-- digest is; `Examples` has the standard's vectors. Assumes nothing.
pub mod Sha1
pub mod Window
pub mod Pieces
pub mod Schedule
pub mod Theorems
pub mod Length
pub mod Examples
