pub mod CutsComputed
pub mod CutExampleHolds
pub mod RealCut
