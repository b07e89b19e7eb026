-- Laws of the definitions in specs/, and the theorems about the calls.
pub mod Theorems
-- what a write is given
pub mod GivenRaised
pub mod Totals
pub mod Cuts
pub mod RepeatsInWrite
pub mod GivenSegment
pub mod Texts
pub mod GivenText
-- what it writes
pub mod SegmentBytes
pub mod TextBytes
pub mod Writings
pub mod Writable
-- a text that is taken apart and written
pub mod RoundTrips
pub mod Rewriting
