pub mod FlagLemmas
pub mod ShownLemmas
pub mod NearestLemmas
pub mod PairLemmas
pub mod AfterLemmas
pub mod RankLemmas
pub mod PartLemmas
pub mod CarrierPairs
pub mod ShownPairs
pub mod PutLemmas
pub mod AdvanceLemmas
mod Rows
