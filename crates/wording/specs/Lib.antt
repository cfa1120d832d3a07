-- What a reader of the programs' output believes: decimal digits, the text for each number, and the lines of the notices.
pub mod Digits
pub mod Texts
pub mod Notices
