pub mod Contents
pub mod Entries
pub mod Kept
pub mod Length
pub mod Parts
pub mod Stands
pub mod Stop
