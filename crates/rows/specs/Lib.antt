pub mod Rows
pub mod Claims
