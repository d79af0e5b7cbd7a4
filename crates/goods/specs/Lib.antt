-- For the reader: Sums, Goods, ByProcess. For the code only: Settling. Examples: Cases.
pub mod Sums
pub mod Goods
pub mod ByProcess
pub mod Cases
pub mod Settling
