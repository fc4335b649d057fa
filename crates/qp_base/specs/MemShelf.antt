-- Shelves in memory.
use Rattle.std.specs.Prelude.{◌==◌, ℕ, Bool, List, [], ◌∷◌, Option, Some, None, Result, Vec, cond}
use Rattle.std.specs.declared.alloc.Global.{Global}
use Rattle.std.specs.List.{list_any}
use Rattle.std.specs.Str.{bytes_eq}
use Rattle.qp_base.specs.Counts.{next_count}
use Rattle.qp_base.specs.Shelf.{is_failed, is_missed}
use Rattle.qp_base.specs.declared.shelves.ShelfFault.{ShelfFault}

-- the names with their bytes, the numbers of the loads that fail, and how many loads, faults and misses there were
pub record Shelved : Type 0 where
  pub files : List (List ℕ × List ℕ)
  pub failing : List ℕ
  pub loads : ℕ
  pub faults : ℕ
  pub misses : ℕ

-- the bytes of the first file of this name
abbrev pub bytes_of_file : List (List ℕ × List ℕ) → List ℕ → Option (List ℕ)
bytes_of_file [] name = None
bytes_of_file (file ∷ files) name = cond (bytes_eq file.0 name) (Some file.1) (bytes_of_file files name)

-- the next load fails
abbrev pub fails : Shelved → Bool
fails s = list_any (λ n. n == s.loads) s.failing

-- the shelf after a load with this answer
abbrev pub after_load : Shelved → Result (Vec ℕ Global) ShelfFault → Shelved
after_load s answer = record s {
  loads = next_count s.loads;
  faults = cond (is_failed answer) (next_count s.faults) s.faults;
  misses = cond (is_missed answer) (next_count s.misses) s.misses;
}
