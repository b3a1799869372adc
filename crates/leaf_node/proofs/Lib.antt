pub mod Steps
pub mod Strikes
