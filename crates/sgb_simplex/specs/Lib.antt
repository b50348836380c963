pub mod Bounds
pub mod Moves
pub mod Overlap
pub mod Points
pub mod Private
pub mod Simplex
pub mod Subsets
