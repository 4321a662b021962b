-- What a walk over functions keeps and settles.
pub mod Steps
pub mod Whole
