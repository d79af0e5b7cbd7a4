-- For the reader: Reckoned. For the code only: Closed.
pub mod Reckoned
pub mod Closed
