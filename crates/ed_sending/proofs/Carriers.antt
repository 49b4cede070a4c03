-- A carrier whole, where its sources got from it alone.
pub mod MemberChunks
pub mod CarrierText
pub mod SentPieces
pub mod MemberParts
pub mod Components
pub mod NewText
pub mod SlotPlaces
pub mod SlotReadings
pub mod ProjectionStep
pub mod ArrivedUnits
pub mod NothingArrived
