pub mod Suite
pub mod Units
pub mod Split
