-- What is read of a cache tree is what the grammar spells. To be read are the store's bytes from the meaning (Rendering), what each answer says and the premises (Said), the
-- theorems (Claims), the same through the accessors (Shown), and that the premises can be met and matter (Example). The others lead there: bytes at a place (Place), numbers in
-- digits (Digits), a node's head (Head), names of siblings (Siblings), a step of the grammar's walk (Steps), and the reading beside it (Walk). Assumes nothing.
pub mod Place
pub mod Digits
pub mod Rendering
pub mod Head
pub mod Siblings
pub mod Steps
pub mod Walk
pub mod Said
pub mod Claims
pub mod Shown
pub mod Example
