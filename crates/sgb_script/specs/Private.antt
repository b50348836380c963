-- What serves private functions only.
pub mod Padding
pub mod Texts
pub mod Words
pub mod Reading
