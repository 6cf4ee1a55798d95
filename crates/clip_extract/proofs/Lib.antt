pub mod Members
pub mod Order
pub mod Covers
pub mod Groups
pub mod Cuts
pub mod SortedKeys
pub mod FrontsOfWords
mod FrontKeys
pub mod Seconds
