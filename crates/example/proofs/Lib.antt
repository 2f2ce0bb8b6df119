pub mod SmallLaws
pub mod TypedLaws
pub mod Computed
pub mod ExampleHolds
pub mod EnterAllLaws
pub mod Real
