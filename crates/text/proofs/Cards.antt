-- Theorems about cards as records, whatever text they belong to, or none: by topic in Cards/, and here by name.
pub mod Formed
pub mod Joined
pub mod Groupings
pub mod Neutral
pub use Formed.{LiveRow, WellFormed, well, take-padded}
pub use Joined.{joined-assoc, Joinable, joined-row, joinable-well, joined-well, join-ok, join-met}
pub use Groupings.{grouping}
pub use Neutral.{empty-well, empty_left, empty_right}
