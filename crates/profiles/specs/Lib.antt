pub mod Rows
pub mod Suites
pub mod Records
