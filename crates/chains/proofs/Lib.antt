-- Laws of xor, of counting and of chains, for the crates above to cite.
pub mod Xor
pub mod Count
pub mod Chain
pub mod Ends
pub mod Cover
pub mod Tried
