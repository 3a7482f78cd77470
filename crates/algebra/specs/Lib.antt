pub mod Field
pub mod Codes
pub mod Flat
pub mod Theorems
