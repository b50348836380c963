-- What serves private functions only.
pub mod Kept
pub mod Performed
