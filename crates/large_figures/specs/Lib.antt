-- For the code only: Large.
pub mod Large
