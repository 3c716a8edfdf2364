pub mod Glyphs
pub mod Corners
pub mod Bits
pub mod Images
pub mod FirstRow
pub mod Shown
