pub mod Kinds
pub mod Places
pub mod Remarks
pub mod Rules
pub mod Texts
pub mod Tokens
