-- Laws of the lines of a reckoning's report.
pub mod Figures
pub mod Rows
