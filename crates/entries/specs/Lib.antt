pub mod Entries
pub mod Spelled
pub mod Given
