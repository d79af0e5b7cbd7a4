-- Laws of attribution, and the sum over a works.
pub mod Cases
pub mod Differences
pub mod Sums
pub mod EveryKind
pub mod Entries
pub mod Valid
pub mod Outside
pub mod Governing
pub mod Stated
pub mod SameReckoning
pub mod Precursors
pub mod GovernedUses
pub mod Works
pub mod Exact
pub mod Sheet
pub mod Bounds
pub mod RowFifteen
