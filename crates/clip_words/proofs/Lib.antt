pub mod Folding
pub mod Boundaries
pub mod Splits
pub mod Cuts
pub mod ItemsLeft
pub mod PackedTexts
pub mod Lowered
