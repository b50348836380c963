pub mod Components
pub mod Degrees
pub mod Info
pub mod Private
pub mod Repeats
