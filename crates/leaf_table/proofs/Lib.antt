pub mod Parts
pub mod Sounds
pub mod Rows
pub mod Shifts
pub mod States
pub mod Leaves
pub mod Strikes
pub mod Steps
