-- What the proofs of the code of the texts share.
pub mod Choice
