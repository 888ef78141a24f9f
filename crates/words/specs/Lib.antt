pub mod Tests
pub mod Word
pub mod Layout
pub mod Claims
