mod Worked
pub mod Counting
pub mod Scanning
pub mod Values
pub mod Fronts
pub mod Printing
pub mod Names
pub mod Called
pub mod Words
pub mod Printed
pub mod Parsed
pub mod Again
pub mod Covering
