pub mod Holding
pub mod Lending
pub mod Exports
