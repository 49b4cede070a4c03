-- One member of a carrier: what it sends, and what it holds of its source afterwards.
pub mod HeldSlice
pub mod SourceParts
pub mod MemberZone
pub mod DealtPieces
pub mod Shares
pub mod Targets
pub mod OwnPieces
pub mod OwnDeletions
pub mod SourceCuts
