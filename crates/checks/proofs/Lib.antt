-- Laws that the crates above cite.
pub mod Chain
pub mod Fitting
pub mod Judged
