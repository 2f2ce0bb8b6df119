pub mod ListFigures
pub mod CostFigures
pub mod LargestFigures
pub mod Figures
pub mod ScreenFigures
