pub mod Fate
pub mod Image
pub mod Induced
pub mod Least
pub mod Private
