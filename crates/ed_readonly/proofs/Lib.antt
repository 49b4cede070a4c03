pub mod Numbering
pub mod Moving
pub mod Bisected
pub mod Earliest
