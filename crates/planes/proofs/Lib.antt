pub mod RowLaws
pub mod ShiftLaws
pub mod ExchangeLaws
pub mod CellLaws
