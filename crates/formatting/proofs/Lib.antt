pub mod FieldsLaws
pub mod FormatLaws
