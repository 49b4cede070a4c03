pub mod Lists
pub mod Texts
pub mod Members
pub mod Carriers
pub mod Shared
pub mod Elisions
pub mod Groups
