mod Cases
pub mod Changes
pub mod Looks
pub mod Same
mod Costs
mod Walks
mod Fits
pub mod Rows
mod Steps
mod Bounds
pub mod Laws
