mod ItemSequences
mod Prefixes
mod QuotedRuns
mod Lines
mod Naturals
mod Runs
mod SpelledItems
pub mod SpelledRecords
mod RecordParts
mod StarLines
mod LineWeights
mod Words
