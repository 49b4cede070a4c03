pub mod Versions
pub mod Chain
pub mod Follows
