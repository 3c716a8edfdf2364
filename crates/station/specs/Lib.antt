pub mod Machine
pub mod SignedReplies
pub mod Joining
