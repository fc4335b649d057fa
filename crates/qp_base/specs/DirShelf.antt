-- Shelves on disk.
use Rattle.std.specs.Prelude.{ℕ}
use Rattle.std.specs.declared.io.ErrorKind.{ErrorKind}
use Rattle.std.specs.declared.io.ErrorKind.TheVariants.{NotFound, NotADirectory, OutOfMemory}
use Rattle.qp_base.specs.declared.shelves.ShelfFault.{ShelfFault}
use Rattle.qp_base.specs.declared.shelves.ShelfFault.TheVariants.{Memory, Failed, Absent}

-- What contracts see: how many loads failed, and how many found no file that may be loaded.
pub record FaultCounts : Type 0 where
  pub faults : ℕ
  pub misses : ℕ

-- what an error of the system means for a load
abbrev pub fault_of : ErrorKind → ShelfFault
fault_of NotFound = Absent
fault_of NotADirectory = Absent
fault_of OutOfMemory = Memory
fault_of _ = Failed
