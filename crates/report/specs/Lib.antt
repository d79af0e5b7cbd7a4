-- For the reader, in document 01's order: Report, Spelling, Reading, Outcome. Examples: Marked, Cases.
pub mod Report
pub mod Spelling
pub mod Reading
pub mod Outcome
pub mod Marked
pub mod Cases
