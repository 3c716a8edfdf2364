-- What the contracts cite.
pub mod Edits
pub mod Replies
pub mod Stored
pub mod Spelled
pub mod Given
