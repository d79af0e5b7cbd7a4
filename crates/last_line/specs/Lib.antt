-- For the code only: Totals.
pub mod Totals
