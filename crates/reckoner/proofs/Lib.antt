-- Laws that the crates above cite.
pub mod Ready
pub mod Figured
pub mod Answer
