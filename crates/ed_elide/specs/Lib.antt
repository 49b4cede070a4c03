pub mod AfterStep
pub mod Pairs
pub mod Kept
pub mod Steps
pub mod Records
