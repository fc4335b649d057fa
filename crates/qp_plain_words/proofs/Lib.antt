pub mod Masks
pub mod PlaceLemmas
pub mod SetLemmas
pub mod TokenLemmas
