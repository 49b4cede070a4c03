pub mod Within
pub mod Keeping
pub mod Reading
pub mod RegionOutcomes
pub mod Deciding
pub mod Asking
pub mod Doing
pub mod Typed
