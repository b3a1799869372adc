pub mod Records
pub mod Slots
pub mod Rules
pub mod Seeks
pub mod Calls
