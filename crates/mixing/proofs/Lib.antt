pub mod ColumnLaws
