-- The modules of replay that contracts cite.
pub mod Cases
pub mod Rows
