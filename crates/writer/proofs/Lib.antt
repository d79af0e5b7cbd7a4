-- Laws of the whole job.
pub mod Job
