pub mod Lanes
pub mod End
pub mod Joining
pub mod Laws
pub mod Seats
pub mod SeatEnd
