pub mod Conditions
pub mod Orders
pub mod Pages
pub mod Refusals
pub mod Values
pub mod Samples
pub mod Places
