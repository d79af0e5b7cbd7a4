-- For the code only: Closing.
pub mod Closing
