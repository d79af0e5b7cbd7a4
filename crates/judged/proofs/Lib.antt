-- Laws that the proofs cite.
mod Given
mod Judging
mod Using
mod Whole
