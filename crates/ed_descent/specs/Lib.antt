pub mod Edits
pub mod InBoxes
pub mod Refusals
pub mod Sends
