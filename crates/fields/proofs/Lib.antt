-- Laws that the proofs of the functions and the crates above cite.
pub mod Scanning
