-- For the reader: Raising. For the code only: Ledger, Moved, Columns.
pub mod Ledger
pub mod Raising
pub mod Moved
pub mod Columns
