pub mod Stored
pub mod Broken
pub mod Gathered
pub mod Answered
pub mod Exactly
pub mod Worked
