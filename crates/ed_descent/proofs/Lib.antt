pub mod BoxLemmas
pub mod UnitSums
pub mod CarrierFacts
pub mod Told
pub mod HeldFacts
pub mod OnTheWay
pub mod Descending
