-- The promise of the table, which no code calls.
pub mod Promised
