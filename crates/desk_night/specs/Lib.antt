-- What a night of the desk is, and what it comes to.
pub mod Trouble
pub mod TextTrouble
pub mod Standings
pub mod Sweep
pub mod Night
pub mod Ending
pub mod Events
