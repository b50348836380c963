pub mod Code
pub mod Listing
pub mod Names
pub mod Span
