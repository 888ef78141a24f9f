pub mod Searches
pub mod Places
