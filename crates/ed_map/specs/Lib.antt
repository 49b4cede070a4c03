pub mod Layers
pub mod Placing
pub mod Shown
pub mod Down
pub mod Up
pub mod Reached
pub mod Images
