-- Laws that the proof cites.
mod Outcomes
