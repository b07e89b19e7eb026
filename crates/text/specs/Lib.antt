-- What a reader must believe: the rules of document 01 as definitions. Their laws are in proofs/.
pub mod Letter
pub mod Text
pub mod Compare
pub mod FromEnd
pub mod Occurrence
pub mod Bits
pub mod State
pub mod Refusal
pub mod Card
pub mod Strand
