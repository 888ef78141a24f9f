pub mod Numbers
pub mod Twelve
pub mod TwoForms
pub mod Printed
pub mod OneSegment
pub mod Folds
pub mod Demands
pub mod Requests
