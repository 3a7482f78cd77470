pub mod Files
pub mod Opened
pub mod Unheld
pub mod Whole
pub mod Questions
pub mod Told
