mod NotDropped
mod WrongFloor
mod LampObject
mod Switched
mod LevelsObjects
mod Preempted
mod SwitchedSummary
