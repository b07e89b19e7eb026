-- What a check and a reader answer, by document 01 ("What can be called").
pub mod Places
pub mod Answers
pub mod Onward
