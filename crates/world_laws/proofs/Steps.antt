-- One step of the world: its cases, what the calls of helpers do, what it does to each list, and what it makes of one run.
pub mod Running
pub mod Rules
pub mod Does
pub mod Calls
pub mod Refusing
pub mod Cases
pub mod Effects
pub mod Private
pub mod Fates
pub mod Beginnings
