-- Laws of the ledger, for the crates above.
pub mod Sizes
pub mod Bounds
pub mod Places
pub mod Inside
