-- What serves private functions only.
pub mod Course
pub mod Holding
pub mod Line
pub mod Performing
pub mod Gathering
pub mod Reaching
pub mod Taking
