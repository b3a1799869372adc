pub mod Ranked
pub mod Ranks
pub mod Changes
pub mod Anew
pub mod Pushes
pub mod Bridge
