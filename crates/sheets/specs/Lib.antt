pub mod Sheets
pub mod Hold
