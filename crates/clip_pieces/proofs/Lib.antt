pub mod Filled
pub mod Flags
pub mod Words
pub mod Held
pub mod Both
pub mod Lost
