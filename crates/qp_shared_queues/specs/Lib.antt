pub mod Bodies
pub mod Now
