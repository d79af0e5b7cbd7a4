-- For the code only: End.
pub mod End
