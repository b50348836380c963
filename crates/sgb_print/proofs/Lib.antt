pub mod TextPieces
mod GraphPieces
