pub mod Blocks
pub mod Entries
pub mod Listed
pub mod Places
pub mod Ranges
pub mod Sequences
pub mod Skipped
