-- What a write is given, what it asks of it and what it writes, by document 01 ("What can be called").
pub mod Cuts
pub mod Writing
pub mod Putting
pub mod Answers
