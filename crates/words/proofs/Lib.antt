pub mod Tests
pub mod Parity
pub mod Fields
pub mod Layouts
pub mod Faults
pub mod Claims
