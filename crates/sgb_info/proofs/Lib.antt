mod CheckLines
pub mod ClassLemmas
pub mod ComponentLemmas
mod DegreeCounts
mod EdgeCounts
pub mod ForestLemmas
mod LengthFolds
mod OneText
mod TipLists
mod Turns
