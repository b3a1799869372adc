pub mod Words
pub mod Lifts
pub mod Uses
mod Scores
pub mod Cursors
