-- A kind of index file is an id's length and the hash that makes ids. `Kind` says what a kind is, `Sha1` is the one that the code serves, and `Trailer` is the trailer's rule
-- over every kind. No reader and no writer is named here. Assumes nothing.
pub mod Kind
pub mod Sha1
pub mod Trailer
