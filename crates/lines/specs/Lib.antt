-- For the reader: Lines, Records, Spelling. For the code only: Words.
pub mod Lines
pub mod Records
pub mod Words
pub mod Spelling
