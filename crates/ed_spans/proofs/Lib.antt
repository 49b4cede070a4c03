pub mod SliceLemmas
pub mod PlaceLemmas
pub mod RunLemmas
pub mod JoinLemmas
pub mod GapLemmas
pub mod EndLemmas
