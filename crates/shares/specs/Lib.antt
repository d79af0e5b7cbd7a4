-- For the code only: Ranges.
pub mod Ranges
