pub mod Lookups
pub mod Following
pub mod Linking
pub mod Repeating
