pub mod Piecing
pub mod Wholes
pub mod Readiness
