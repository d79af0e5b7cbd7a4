-- Laws that the proof cites.
mod Pooling
