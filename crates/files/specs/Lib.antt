-- What is known of bytes that were read.
pub mod Reads
