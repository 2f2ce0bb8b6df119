pub mod Lawful
pub mod RowLaws
pub mod CostLaws
