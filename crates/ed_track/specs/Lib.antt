pub mod Ways
pub mod Sides
pub mod Linked
