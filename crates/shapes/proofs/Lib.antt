-- Laws of what is true of no engine in particular.
pub mod Numbers
pub mod Lowest
pub mod Counts
pub mod Shape
pub mod Ends
pub mod Seen
pub mod Unwiped
pub mod Going
pub mod Walks
pub mod Tried
pub mod QuickTried
pub mod Changes
pub mod Ledger
pub mod Quick
pub mod Sides
pub mod Said
