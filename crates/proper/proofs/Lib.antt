pub mod Fits
pub mod Walked
