-- For the code only: a field as the code finds it.
pub mod Scan
