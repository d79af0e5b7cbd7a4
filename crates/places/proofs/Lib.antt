-- Laws that the crates above cite.
pub mod NextLine
pub mod LineStart
