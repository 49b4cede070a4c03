pub mod Refusals
pub mod Climbing
pub mod Route
pub mod Kept
pub mod Limited
pub mod Counted
pub mod Group
pub mod Begins
