-- For the code only: a line's fields as the code reads them, and a sheet's lines one after the other.
pub mod Reading
pub mod Lines
