-- How a book is put into words, what the check finds in the code's words, and the stored counts one by one.
pub mod Put
pub mod Found
pub mod Told
pub mod Tallied
pub mod Packed
pub mod Handed
