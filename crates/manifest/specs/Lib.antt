-- A text's manifest: kinds of bytes and names, what a line says, all lines and the entries in them, what is put, and what a check says.
pub mod Kinds
pub mod Line
pub mod Lines
pub mod Written
pub mod Check
