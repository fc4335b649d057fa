pub mod Outcome
pub mod LastRecords
pub mod Laws
pub mod Rests
