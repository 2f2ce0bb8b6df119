pub mod Aes
pub mod Planes
pub mod Columns
