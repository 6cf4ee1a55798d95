pub mod Behind
pub mod Telling
