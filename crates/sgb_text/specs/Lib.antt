pub mod Restore
pub mod Read
pub mod Layout
pub mod Clean
pub mod Save
pub mod Private
