-- What a reader of the demonstration believes: its calls, and what it shows.
pub mod Demo
