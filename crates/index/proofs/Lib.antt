pub mod Looks
pub mod Twice
pub mod Afresh
pub mod Sound
pub mod History
pub mod Claims
pub mod Lent
