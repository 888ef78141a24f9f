pub mod Leaves
pub mod Decided
