pub mod Building
pub mod Ends
pub mod Glyphs
pub mod Items
pub mod Lexing
pub mod Progress
pub mod Sizes
pub mod TokenOf
