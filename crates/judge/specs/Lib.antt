-- For the code only: Line.
pub mod Line
