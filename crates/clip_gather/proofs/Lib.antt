pub mod Order
pub mod Merges
pub mod Lists
pub mod Maps
pub mod Numbered
