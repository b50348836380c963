pub mod Meter
pub mod Print
pub mod Show
