-- Laws of the lines that lent records spell.
pub mod Lines
pub mod Kept
