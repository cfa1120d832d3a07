-- What a reader of the cases believes: 01's marked and unmarked pools as cases, and a pool for every number of the table.
pub mod Cases
pub mod Reach
pub mod Unmarked
pub mod Many
pub mod High
