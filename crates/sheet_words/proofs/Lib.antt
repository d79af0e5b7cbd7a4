-- Laws of the words that are put.
pub mod RecordWords
pub mod EveryLine
