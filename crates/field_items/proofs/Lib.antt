pub mod Laws
pub mod Own
pub mod Count
pub mod Claims
