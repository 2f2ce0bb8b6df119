pub mod FieldLaws
pub mod InverseLaws
pub mod SboxLaws
pub mod Figures
