-- Carriers whose sources others send to as well.
pub mod SourceSigns
pub mod ProjectionSigns
pub mod OwnedUnits
pub mod SignsByHeight
