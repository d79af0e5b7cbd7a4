-- For the code only: the fields of a line that are left, and a line's head.
pub mod Left
pub mod Heads
