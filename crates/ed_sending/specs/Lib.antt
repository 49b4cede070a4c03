pub mod OneCarrierEach
pub mod Ready
pub mod LandedBelow
