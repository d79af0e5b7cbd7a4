-- Laws that the crates above cite.
pub mod Left
pub mod Heads
