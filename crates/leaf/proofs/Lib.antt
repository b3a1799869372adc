pub mod Wholes
pub mod Sides
mod Turns
pub mod Effects
pub mod Holders
pub mod Finds
pub mod Files
