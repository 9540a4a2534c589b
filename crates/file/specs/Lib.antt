-- The modules of file that contracts and proofs cite. `Read` is what reading comes to; `Answer` gives 01's numbers; `Trailer` is the trailer's rule.
pub mod Trailer
pub mod Answer
pub mod Read
pub mod Made
