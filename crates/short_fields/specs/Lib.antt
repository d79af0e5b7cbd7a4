-- For the code only: a short number or `-` as the code finds it.
pub mod Short
