pub mod LineFeeds
pub mod Fronts
