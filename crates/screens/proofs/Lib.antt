pub mod MappedLaws
pub mod ScreenLaws
pub mod ScreensTell
