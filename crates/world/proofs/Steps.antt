-- One step of the world, as far as the crates that carry out its parts need it: what it moves, what it answers and which
-- CCB waits.
pub mod Answering
pub mod Moves
pub mod Waiting
