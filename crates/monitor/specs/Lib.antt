pub mod LegalHistory
pub mod Nameless
pub mod Seats
pub mod Telling
