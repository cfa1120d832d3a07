-- What is true of no engine in particular: sequences of slots and what they amount to, the ends of a list, the stored counts, numbers and their order, the record of slots met, walks, faults, setup, moves, what the quick calls ask, and the ledger.
pub mod Records
pub mod Shape
pub mod Ends
pub mod Counts
pub mod Changes
pub mod Numbers
pub mod Tests
pub mod Met
pub mod Walk
pub mod Faults
pub mod Setup
pub mod Moves
pub mod Quick
pub mod Ledger
pub mod Sides
