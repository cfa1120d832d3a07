-- What the proofs of the C face's code share, and what its promises are.
pub mod Thin
pub mod Granted
pub mod Keeping
pub mod Promised
