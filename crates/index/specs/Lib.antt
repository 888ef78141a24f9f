pub mod Numbers
pub mod Entries
pub mod Table
pub mod Indexing
pub mod Afresh
pub mod Steps
pub mod Claims
