-- What serves private functions only.
pub mod Progress
pub mod Table
