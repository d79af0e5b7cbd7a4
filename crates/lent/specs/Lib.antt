-- For the reader: Lent. For the code only: AsRead.
pub mod Lent
pub mod AsRead
