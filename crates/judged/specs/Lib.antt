-- For the code only: Judged.
pub mod Judged
