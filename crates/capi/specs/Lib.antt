pub mod Answered
pub mod Joined
