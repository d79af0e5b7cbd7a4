-- For the reader: Exchange. Examples: Cases.
pub mod Exchange
pub mod Cases
