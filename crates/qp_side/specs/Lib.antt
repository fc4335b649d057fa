pub mod Seat
pub mod Tries
pub mod Calls
pub mod Ending
pub mod Rule
pub mod Told
pub mod Laws
pub mod Seats
