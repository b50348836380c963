pub mod Link
pub mod Rank
pub mod Ridden
pub mod Signs
pub mod Still
