pub mod Kept
pub mod Runs
pub mod Walks
pub mod Places
pub mod WayEdges
pub mod Passing
pub mod LinkedSteps
