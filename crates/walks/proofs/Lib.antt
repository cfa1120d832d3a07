-- What the proofs of the code of the walks share.
pub mod Turns
pub mod Live
pub mod IdleWalks
pub mod Fill
