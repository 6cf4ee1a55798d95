pub mod Appending
pub mod Handing
pub mod Keeping
pub mod Pieces
pub mod Stages
pub mod Times
