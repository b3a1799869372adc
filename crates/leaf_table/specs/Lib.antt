pub mod Records
pub mod States
pub mod Changes
pub mod Answers
pub mod Plans
pub mod Filings
pub mod Strikes
