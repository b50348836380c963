pub mod Board
pub mod Choice
pub mod Private
pub mod Ride
pub mod Vector
