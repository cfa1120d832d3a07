-- What a reader of the lent calls believes: how what a call returns and the book that it leaves make the by-value answer.
pub mod Lent
