-- The lines that programs print: the digits of a number, a line, the strands that are screened, the lines of an answer, and how bytes are
-- put into a buffer.
pub mod Input
pub mod Decimal
pub mod Puts
pub mod Version
pub mod Screening
pub mod Answer
