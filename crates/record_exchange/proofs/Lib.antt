-- Theorems of the writer and the reader of records.
pub mod RoundTrip
pub mod Cases
pub mod Judged
