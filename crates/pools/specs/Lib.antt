-- What the code of the check and of the book's words asks for beside the definitions below it.
pub mod Found
pub mod Kept
pub mod Quick
pub mod Word
