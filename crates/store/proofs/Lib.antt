pub mod CheckedRecords
pub mod ImageRows
pub mod SoundRows
pub mod WriteLaws
