pub mod Readings
pub mod Unchanged
pub mod EditedItem
