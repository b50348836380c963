pub mod Arrangement
pub mod Perms
pub mod Private
