-- Laws of a source stream's methods.
pub mod Methods
