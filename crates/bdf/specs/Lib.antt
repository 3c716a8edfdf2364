pub mod Reader
pub mod Font
pub mod Writing
pub mod Rising
pub mod Stores
pub mod Within
pub mod Walk
pub mod Usual
