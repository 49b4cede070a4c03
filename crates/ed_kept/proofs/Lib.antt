pub mod Rising
pub mod Components
pub mod RunLemmas
