pub mod Table
pub mod Numbers
pub mod Steps
pub mod Records
pub mod Lists
pub mod Reading
pub mod Writing
pub mod Claims
