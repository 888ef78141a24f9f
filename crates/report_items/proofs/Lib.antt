pub mod Signed
pub mod Builds
pub mod Tally
pub mod Back
pub mod Claims
