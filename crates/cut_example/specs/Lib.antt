pub mod CutExample
pub mod RealCut
