-- What a reader of the C face believes: the book as words, what each of the ten functions and of the quick ones gives and leaves, and what it owes.
pub mod Words
pub mod Face
pub mod Meaning
pub mod Quick
pub mod Trace
pub mod Undo
pub mod Version
pub mod Tried
pub mod QuickTried
