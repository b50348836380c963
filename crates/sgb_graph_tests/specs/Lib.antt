pub mod Example
pub mod Path
