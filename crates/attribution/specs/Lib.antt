-- For the reader, in document 01's order, Governing being document 02's: Sums, Attribution, Governing, Reckoning, Exact, Verdict. Examples:
-- Cases.
pub mod Sums
pub mod Attribution
pub mod Governing
pub mod Reckoning
pub mod Exact
pub mod Verdict
pub mod Cases
