pub mod Moving
pub mod Legal
pub mod Replays
pub mod Rendered
