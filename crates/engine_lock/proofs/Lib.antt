pub mod Since
pub mod QueuePrograms
pub mod Histories
pub mod Driven
