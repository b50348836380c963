pub mod Generator
pub mod Private
pub mod Sequence
