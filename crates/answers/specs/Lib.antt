-- For the reader: Given. For the code only: Within.
pub mod Given
pub mod Within
