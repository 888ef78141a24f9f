pub mod Unique
pub mod Scaled
pub mod Claims
