-- Laws that the crates above cite.
pub mod Words
pub mod Shape
pub mod Line
