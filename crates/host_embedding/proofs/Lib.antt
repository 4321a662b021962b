pub mod Again
pub mod Beginning
pub mod Counts
pub mod Driving
pub mod Courses
pub mod Following
pub mod Going
pub mod Lines
pub mod Noting
pub mod Listing
pub mod Guests
pub mod Handing
pub mod Taking
pub mod Remade
pub mod Recovered
pub mod Standing
mod Results
