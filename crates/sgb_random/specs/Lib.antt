pub mod Private
pub mod Random
