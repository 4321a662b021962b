pub mod LiveRuns
pub mod RunsState
pub mod Tokens
pub mod RunPlaces
pub mod Invariant
pub mod Admits
