pub mod Leaves
pub mod Rows
pub mod Nodes
pub mod Walks
pub mod Histories
pub mod Law
pub mod Bench
