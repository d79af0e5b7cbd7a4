-- For the reader: Weighed. For the code only: Entries, Read.
pub mod Weighed
pub mod Entries
pub mod Read
