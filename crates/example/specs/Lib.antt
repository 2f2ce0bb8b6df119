pub mod Small
pub mod Example
pub mod ExampleHolds
pub mod Real
