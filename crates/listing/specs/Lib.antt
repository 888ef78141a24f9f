pub mod Letters
pub mod Listing
pub mod Walking
pub mod Bounds
pub mod Errors
pub mod Claims
