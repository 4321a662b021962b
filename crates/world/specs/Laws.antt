-- What holds of every run of the world, and of every run of a recovery program in it.
pub mod TookGave
pub mod FreezeLaws
pub mod ClockLaws
pub mod Headline
pub mod ParkLaws
pub mod Moved
pub mod CcbLaws
pub mod OneController
pub mod Classes
pub mod LimitLaws
pub mod Advice
