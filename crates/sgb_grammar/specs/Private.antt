-- What serves private functions only.
pub mod Reading
pub mod Pieces
