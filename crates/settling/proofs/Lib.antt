-- Laws that the proofs cite.
mod Settling
pub mod Takers
