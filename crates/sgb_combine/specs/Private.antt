pub mod Begin
pub mod Both
pub mod Pairs
pub mod Prepared
pub mod Pruned
pub mod Rows
pub mod Table
pub mod Targets
