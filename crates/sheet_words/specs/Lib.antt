-- For the code only: the words of a line that was read, as a lent list has them.
pub mod LineWords
