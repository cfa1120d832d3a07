-- What a reader of the book believes: its constants, its rules, the test that the code runs, the table of numbers, and how an answer is joined with both slices.
pub mod Book
pub mod Place
pub mod Errors
pub mod Rules
pub mod Test
pub mod Outcome
pub mod Tabulate
pub mod Words
pub mod Table
pub mod Tried
