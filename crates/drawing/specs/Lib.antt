pub mod Drawing
pub mod Frames
pub mod Items
pub mod SignedSheet
