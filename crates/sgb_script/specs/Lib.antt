pub mod Name
pub mod Words
pub mod Numbers
pub mod Arguments
pub mod Commands
pub mod Line
pub mod Refusal
pub mod Private
