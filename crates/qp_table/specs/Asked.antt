-- What steps ask of the gives and claims that the lane has under way.
use Rattle.std.specs.Prelude.{◌≡◌, ℕ, ◌-◌, nat_lt, nat_le, ◌==◌, Bool, not, ◌&&◌, ◌||◌, List, [], ◌∷◌, length, get_or, Some, None, if◌then◌else◌}
use Rattle.std.specs.declared.option.Option.{Option}
use Rattle.std.specs.List.{list_any}
use Rattle.qp_model.specs.declared.bodies.Entry.{Entry}
use Rattle.qp_model.specs.declared.systems.System.{System}
use Rattle.qp_model.specs.Parts.{sizes_of}
use Rattle.qp_table.specs.Rule.{fills_of, gives_of, on_queue}
use Rattle.qp_table.specs.After.{place}
use Rattle.qp_table.specs.declared.view.CellPlace.{CellPlace}
use Rattle.qp_table.specs.declared.view.Fill.{Fill}
use Rattle.qp_table.specs.declared.view.PendingGive.{PendingGive}

-- so many parameters the blocks of a pool have room for
abbrev pub size_of : System → ℕ → ℕ
size_of sys p = get_or (sizes_of sys) (p - 1) 0

-- a give is finished where the beginning of the life was read and no event word is left to be written
abbrev pub is_unfinished : List Fill → PendingGive → Bool
is_unfinished fills g = not g.read || list_any (fills_of g.pool g.block) fills

-- a give of this block, the beginning of whose life was read
abbrev pub is_begun : ℕ → ℕ → PendingGive → Bool
is_begun p b g = gives_of p b g && g.read

-- a give of this block, for an event that has this value at place j
abbrev pub is_asked : ℕ → ℕ → ℕ → ℕ → PendingGive → Bool
is_asked p b j x g = gives_of p b g && nat_lt j (length g.event) && (get_or g.event j 0 == x)

-- of the claims on a queue the one that was made first
abbrev pub older : CellPlace → Option CellPlace → CellPlace
older x None = x
older x (Some y) = if nat_le x.number y.number then x else y

abbrev pub oldest : ℕ → List CellPlace → Option CellPlace
oldest a [] = None
oldest a (x ∷ xs) = if on_queue a x then Some (older x (oldest a xs)) else oldest a xs

-- the oldest claim on queue a is of cell j, by this entry
abbrev pub IsOldest : ℕ → ℕ → Entry → List CellPlace → Type 0
IsOldest a j e claims = (k : ℕ) × (oldest a claims ≡ Some (place a j e k))
