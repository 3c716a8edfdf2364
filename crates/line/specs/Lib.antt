pub mod Line
pub mod Clip
pub mod Ink
pub mod Limits
pub mod Lent
