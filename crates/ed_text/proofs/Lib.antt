pub mod HalfFull
mod Idle
pub mod ReplacedSoFar
pub mod Rows
pub mod Runs
