pub mod Ranges
pub mod Sweep
