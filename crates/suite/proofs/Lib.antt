pub mod UnitsLaws
pub mod SplitLaws
