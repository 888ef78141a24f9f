pub mod Numbers
pub mod Rules
pub mod Breaches
pub mod Listing
pub mod Lent
pub mod Laws
pub mod Steps
pub mod Claims
