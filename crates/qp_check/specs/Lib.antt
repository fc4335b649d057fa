pub mod Judgeable
pub mod Judged
pub mod Law
pub mod ObjectPieces
