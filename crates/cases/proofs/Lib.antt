-- The cases pass, each by one computed test.
pub mod Cases
pub mod Reach
pub mod Unmarked
pub mod Many
pub mod High
