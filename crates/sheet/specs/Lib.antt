-- For the reader, in document 01's order: Kinds, Refusals, Verdict. For the code only: Ranges, Most. Examples: Cases.
pub mod Kinds
pub mod Refusals
pub mod Verdict
pub mod Ranges
pub mod Most
pub mod Cases
