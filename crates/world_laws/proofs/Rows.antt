-- Rows worked by hand, computed by the definitions themselves.
pub mod Words
pub mod Worked
pub mod Guests
pub mod Clock
pub mod Ccbs
pub mod Runs
pub mod Lawful
pub mod Telling
pub mod Calls
pub mod Disposals
pub mod Handing
pub mod Tables
pub mod Parks
pub mod Controllers
pub mod Classes
pub mod Advising
