-- Laws of the C face.
pub mod Kept
pub mod Exact
pub mod OneResult
pub mod Quick
pub mod Traces
pub mod Undo
pub mod Tried
pub mod QuickTried
