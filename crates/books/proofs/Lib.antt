-- Laws about tests and about the book rules, for the crates above to cite.
pub mod Tests
pub mod Rules
pub mod Numbers
pub mod Errors
pub mod Tabulate
pub mod Eight
pub mod Flat
pub mod Fill
pub mod Stored
pub mod Table
pub mod OneResult
pub mod Tried
