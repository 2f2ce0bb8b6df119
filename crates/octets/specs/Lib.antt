pub mod Octets
pub mod Splice
pub mod Pieces
