pub mod Narrowed
pub mod Parting
