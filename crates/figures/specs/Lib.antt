-- For the code only: Figures.
pub mod Figures
