pub mod Weight
pub mod Exact
pub mod Claims
