mod Ending
mod Lanes
mod Places
