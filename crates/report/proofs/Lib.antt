-- Laws that the crates above cite.
pub mod Marked
pub mod Cases
pub mod Reading
pub mod OneReport
pub mod Outcome
pub mod Sixteen
pub mod Longest
pub mod Precursors
