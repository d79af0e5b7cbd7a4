-- For the reader: Number, Spelling, Text, Writing. Examples: Cases.
pub mod Number
pub mod Spelling
pub mod Text
pub mod Cases
pub mod Writing
