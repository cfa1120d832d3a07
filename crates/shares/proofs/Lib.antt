-- What the proofs of the code of the ten calls and of the four quick ones share.
pub mod Fresh
pub mod Paired
pub mod LaidOut
pub mod OneList
pub mod Reached
pub mod Listed
pub mod QuickOnList
pub mod QuickReached
pub mod QuickListed
