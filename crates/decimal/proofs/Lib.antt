-- Laws that the crates above cite.
pub mod Cases
pub mod Bools
pub mod Spelling
pub mod OneSpelling
pub mod Widths
pub mod Writing
pub mod Digits
