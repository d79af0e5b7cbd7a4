-- Laws that the crates above cite.
pub mod Cases
pub mod Rounding
pub mod Weights
pub mod Methods
pub mod MethodNumbers
pub mod FossilShare
pub mod Tables
pub mod Small
