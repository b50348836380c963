pub mod Outcome
pub mod Replay
pub mod History
pub mod Events
pub mod Group
pub mod Private
