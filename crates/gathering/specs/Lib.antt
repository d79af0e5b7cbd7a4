-- For the code only: Gathered.
pub mod Gathered
