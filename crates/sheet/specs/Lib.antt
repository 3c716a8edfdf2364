pub mod Fields
pub mod Pieces
pub mod Conforming
pub mod Check
pub mod Accepted
pub mod Edits
pub mod Requires
pub mod OfItem
