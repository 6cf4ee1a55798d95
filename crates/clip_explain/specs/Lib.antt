pub mod Certain
pub mod Explaining
pub mod Lexemes
pub mod Places
pub mod Spelling
pub mod Steps
