-- What the tests compare and count: the library's answers in one form, the counts, and the lines that tell them.
pub mod Answers
pub mod Counts
pub mod Report
