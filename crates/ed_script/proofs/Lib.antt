pub mod Keys
pub mod Values
pub mod Arrays
pub mod Cuts
pub mod Unread
