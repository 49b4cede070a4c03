pub mod Landings
pub mod Bases
pub mod EditedStock
