-- The laws of the lent calls: their promises are whole and allow one result, and a refused call leaves what it was lent.
pub mod Promised
pub mod OneResult
pub mod Refusals
pub mod Undo
