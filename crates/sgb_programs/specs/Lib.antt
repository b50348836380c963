pub mod Checked
pub mod Ends
pub mod Exported
pub mod File
pub mod Imported
pub mod Informed
pub mod Made
pub mod Queen
