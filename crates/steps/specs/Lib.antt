-- For the code only: Steps.
pub mod Steps
