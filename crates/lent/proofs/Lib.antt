-- Laws of records that callers lend.
pub mod Spelt
pub mod ReadBack
pub mod SameWords
pub mod Counts
pub mod Lines
pub mod Full
pub mod Stores
pub mod Steps
