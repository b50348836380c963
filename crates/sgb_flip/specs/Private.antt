-- What serves private functions only.
pub mod Halves
pub mod Run
