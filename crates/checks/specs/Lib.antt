-- For the reader: Numbers. For the code only: Steps, Judged.
pub mod Numbers
pub mod Steps
pub mod Judged
