-- What the walk over the extensions answers, said by the grammar alone. `Said` has the rule of each answer. `Words` has the premise of the theorems and says how a signature
-- is a number, `Means` what the extensions found mean, `Body` where a body lies. The theorems are in `proofs/`: `Claims`, and `Shown` that their premise can be met and matters.
-- Assumes nothing.
pub mod Words
pub mod Said
pub mod Means
pub mod Body
