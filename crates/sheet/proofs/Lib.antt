-- Laws that the crates above cite.
pub mod Cases
pub mod Table
pub mod First
pub mod Numbers
pub mod Passed
pub mod OneSheet
pub mod Held
