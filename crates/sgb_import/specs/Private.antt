-- What serves private functions only.
pub mod Cursors
pub mod Dimacs
pub mod EdgesRead
pub mod Outlined
pub mod Pairs
pub mod Signs
