mod Rows
mod Weaving
mod TrackingRows
pub mod NormalLists
pub mod NormalSteps
