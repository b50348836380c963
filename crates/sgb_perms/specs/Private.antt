pub mod Counted
pub mod Listed
pub mod Places
pub mod Rows
