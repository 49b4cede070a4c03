pub mod Founded
pub mod Growing
pub mod Laws
pub mod Rising
pub mod Counting
pub mod Start
