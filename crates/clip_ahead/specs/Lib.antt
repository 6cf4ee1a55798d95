pub mod Ahead
pub mod Anew
pub mod Changes
pub mod Handing
pub mod Keeping
pub mod Pieces
pub mod Stages
