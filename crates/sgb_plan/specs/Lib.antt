pub mod Distinct
pub mod Id
pub mod Length
pub mod Listing
pub mod Name
pub mod Plan
pub mod Private
