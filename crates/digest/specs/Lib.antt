pub mod Digest
pub mod Chaining
pub mod Turns
