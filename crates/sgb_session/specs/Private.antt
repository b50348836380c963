-- What serves private functions only.
pub mod Slots
pub mod Working
pub mod Making
