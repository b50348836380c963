mod ExportedArcs
mod FormatTexts
mod NameIndexes
mod OtherEnds
mod PackedBits
mod SimpleEdges
