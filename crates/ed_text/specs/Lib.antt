pub mod Splices
pub mod Balance
