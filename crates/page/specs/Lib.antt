pub mod Page
pub mod Room
