mod TextBody
mod Builds
mod CleanSound
mod CleanGraphs
mod Cuts
mod Digits
mod Entries
mod Exactness
mod FieldItems
mod Fields
mod Links
mod RecordLists
mod Quotes
pub mod ReadAs
mod ItemLayout
mod RecordLayout
mod Sound
mod WholeTexts
