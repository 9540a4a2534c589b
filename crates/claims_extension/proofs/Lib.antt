-- The claims on the walk over the extensions (Claims), and that their premise can be met and matters (Shown). Assumes nothing.
pub mod Claims
pub mod Shown
