-- Laws of digits, texts and lines.
pub mod Digits
pub mod Written
pub mod Pieces
pub mod Texts
pub mod Notices
