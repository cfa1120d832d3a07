-- How the code's results say what a call on a list answers.
pub mod Answers
