-- The records that end a lane.
use Rattle.std.specs.Prelude.{ℕ, ◌==◌, Bool, true, false, not, ◌&&◌, ◌||◌, List, [], ◌∷◌}
use Rattle.std.specs.List.{list_any}
use Rattle.qp_model.specs.declared.bodies.Body.{Body}
use Rattle.qp_model.specs.declared.bodies.Body.TheVariants as body
use Rattle.qp_model.specs.Record.{Item}

abbrev pub is_assert : Body → Bool
is_assert (body.NoEntry a f l m) = true
is_assert (body.NoBlock p n free) = true
is_assert (body.Armed t n c) = true
is_assert (body.BadTicks t n i) = true
is_assert (body.NoLifo a f l m) = true
is_assert _ = false

abbrev pub is_spent : Body → Bool
is_spent body.Spent = true
is_spent _ = false

-- the queue was found empty
abbrev pub is_nil : Body → Bool
is_nil (body.Nil f l m) = true
is_nil _ = false

-- a record of a turn without a step: the queue was found empty, or the budget is taken
abbrev pub is_turn_mark : Body → Bool
is_turn_mark (body.Nil f l m) = true
is_turn_mark body.Spent = true
is_turn_mark _ = false

abbrev pub is_spill : Body → Bool
is_spill (body.Spill n) = true
is_spill _ = false

-- a `spill` stands in the lane
abbrev pub spills_in : List Item → Bool
spills_in lane = list_any (λ i. is_spill i.body) lane

-- `assert`, `spent` and `spill`
abbrev pub is_end : Body → Bool
is_end b = is_assert b || is_spent b || is_spill b

-- nothing follows one of them
unfoldable pub ends_last : List Item → Bool
ends_last [] = true
ends_last (i ∷ []) = true
ends_last (i ∷ j ∷ is) = not (is_end i.body) && ends_last (j ∷ is)

-- how a run ended
abbrev pub quiet : ℕ
quiet = 0

abbrev pub end_asserted : ℕ
end_asserted = 3

abbrev pub spent : ℕ
spent = 4

-- lists may be cut only where a run stopped early
abbrev pub may_cut : ℕ → Bool
may_cut end = (end == end_asserted) || (end == spent)

-- a `spill` stands only as the last record of its lane, and only where the run stopped early
unfoldable pub spills_cut : ℕ → List Item → Bool
spills_cut end [] = true
spills_cut end (i ∷ []) = not (is_spill i.body) || may_cut end
spills_cut end (i ∷ j ∷ is) = not (is_spill i.body) && spills_cut end (j ∷ is)
