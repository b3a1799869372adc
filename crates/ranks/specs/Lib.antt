pub mod Dimensions
pub mod Words
pub mod Boundaries
pub mod Indexes
