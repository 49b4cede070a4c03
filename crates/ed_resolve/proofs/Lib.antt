pub mod Rising
pub mod Dealing
pub mod Reaching
