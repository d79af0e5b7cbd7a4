-- Laws that the crates above cite.
pub mod ReadBack
pub mod Ranges
pub mod Streams
pub mod OfKind
-- and those of this crate's code
mod Weighing
mod WeighingStream
