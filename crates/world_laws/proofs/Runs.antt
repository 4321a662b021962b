-- What holds of runs: that they were reached, are never stuck, keep their limits, dispose of their CCB, and stay as they are while they
-- are parked.
pub mod Reaching
pub mod Recovering
pub mod NeverStuck
pub mod Sizes
pub mod Lives
pub mod Parking
