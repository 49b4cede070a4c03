pub mod Lists
pub mod Fuel
pub mod RoundLemmas
pub mod Levels
pub mod Shown
