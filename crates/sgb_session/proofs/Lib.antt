mod Drawings
mod Tables
mod EditSteps
mod MakerSteps
mod LengthSteps
