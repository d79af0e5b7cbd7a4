-- For the code only: Held.
pub mod Held
