mod Batches
pub mod Draws
mod Halves
mod Lanes
mod Seeds
pub mod Terms
pub mod Uniforms
