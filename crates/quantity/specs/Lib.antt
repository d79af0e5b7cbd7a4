-- For the reader, in document 01's order: Limits, Rounding, Methods, Streams, Standard, Weights. For the code only: Ranges. Examples: Cases.
pub mod Limits
pub mod Rounding
pub mod Methods
pub mod Streams
pub mod Standard
pub mod Weights
pub mod Ranges
pub mod Cases
