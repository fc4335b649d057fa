mod Seating
mod BlockSteps
mod PoolSteps
mod QueueSteps
mod Laws
