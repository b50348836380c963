-- What serves private functions only.
pub mod Classes
pub mod Extremes
pub mod Forest
pub mod Targets
