-- The list of withheld sequences: kinds of bytes, decimal numbers, what a line says, and what is said of all lines.
pub mod Kinds
pub mod Number
pub mod Line
pub mod Lines
