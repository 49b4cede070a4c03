pub mod OneBase
pub mod LandMore
pub mod OneMore
pub mod Visits
pub mod Boxed
pub mod Ended
pub mod Beginning
