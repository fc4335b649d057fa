pub mod SeatLemmas
pub mod TableLemmas
pub mod FirstLemmas
pub mod ApplyLemmas
