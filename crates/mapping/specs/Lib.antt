pub mod Entries
pub mod Mapping
pub mod Search
