pub mod Runs
pub mod Arrivals
pub mod Order
pub mod Trails
pub mod Ways
