pub mod LiveRegions
pub mod Denied
