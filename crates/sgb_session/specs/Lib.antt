pub mod Drawing
pub mod Edits
pub mod Make
pub mod Source
pub mod State
pub mod Command
pub mod Table
pub mod Private
