pub mod LeftOut
pub mod Lexer
pub mod Parser
