pub mod JournalLists
pub mod GroupSteps
pub mod EventSteps
