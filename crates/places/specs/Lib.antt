-- For the reader: LinePlace. For the code only: LineStart.
pub mod LinePlace
pub mod LineStart
