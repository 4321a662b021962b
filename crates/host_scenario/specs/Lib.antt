pub mod Asked
pub mod Faults
pub mod Holding
pub mod Served
pub mod Traces
pub mod Turns
