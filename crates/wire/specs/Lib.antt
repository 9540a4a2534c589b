-- The modules of wire that contracts and proofs cite: places, big-endian numbers, numbers in groups of seven bits, numbers in digits, read and written. Assumes nothing.
pub mod Places
pub mod BigEndian
pub mod Groups
pub mod Digits
pub mod Written
