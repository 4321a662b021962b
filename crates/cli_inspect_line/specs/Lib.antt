pub mod Deciding
pub mod Files
pub mod FoundPlan
pub mod InspectLines
pub mod ReportedWords
pub mod Trying
