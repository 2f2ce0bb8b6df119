pub mod Trace
pub mod Refused
pub mod Searching
pub mod Listed
pub mod Screened
pub mod Counted
