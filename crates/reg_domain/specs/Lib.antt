pub mod AllRegisters
pub mod Enough
pub mod Ways
