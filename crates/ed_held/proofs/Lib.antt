pub mod ElisionLemmas
pub mod KindLemmas
pub mod Landed
