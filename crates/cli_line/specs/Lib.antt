pub mod RunCommand
pub mod RunLine
pub mod FileLines
pub mod FoundPlan
pub mod Files
pub mod UsageFault
pub mod Watching
