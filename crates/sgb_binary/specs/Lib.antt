pub mod Binary
pub mod Private
pub mod Rotation
pub mod Shape
pub mod Tree
