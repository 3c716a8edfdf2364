pub mod Exact
pub mod EditedExact
pub mod DamageHolds
pub mod Repainting
pub mod Painting
pub mod Readings
pub mod EditedInk
pub mod Changes
