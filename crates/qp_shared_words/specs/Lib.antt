pub mod Nils
pub mod Fronts
