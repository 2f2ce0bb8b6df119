pub mod Screens
pub mod Entries
