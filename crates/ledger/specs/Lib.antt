pub mod Drive
pub mod Ledger
pub mod Demand3
pub mod Costs
