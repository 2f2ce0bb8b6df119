pub mod BoolLaws
pub mod XorLaws
pub mod OctetsLaws
pub mod SpliceLaws
pub mod InPlaceLaws
pub mod PiecesLaws
pub mod TableLaws
pub mod PartsLaws
