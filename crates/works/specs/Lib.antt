-- For the code only: Works.
pub mod Works
