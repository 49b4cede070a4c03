pub mod Texts
pub mod Kept
pub mod Records
pub mod Planning
