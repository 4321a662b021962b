pub mod InboxLists
pub mod Refusals
pub mod Seats
pub mod Views
