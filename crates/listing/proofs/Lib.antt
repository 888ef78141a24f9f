pub mod Decimals
pub mod Bounded
pub mod Telling
pub mod Whole
pub mod Document
