-- Laws that the crates above cite.
pub mod Cases
pub mod Defaults
pub mod Sums
pub mod Portions
pub mod Pools
pub mod Same
