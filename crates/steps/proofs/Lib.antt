-- Laws of one step.
mod Steps
