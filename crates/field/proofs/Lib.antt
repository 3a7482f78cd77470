pub mod Bounds
pub mod Remainders
pub mod Digits
pub mod Parts
pub mod Pairs
pub mod Rows
pub mod Where
pub mod Combining
