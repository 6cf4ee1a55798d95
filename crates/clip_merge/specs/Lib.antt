pub mod Live
pub mod Plan
pub mod Price
