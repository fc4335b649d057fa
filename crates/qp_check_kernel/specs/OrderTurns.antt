-- The stimuli that stand in a look.
use Rattle.std.specs.Prelude.{◌≡◌, ℕ, ◌==◌, ◌&&◌, ◌||◌, Bool, true, false, List, [], ◌∷◌, Some, None}
use Rattle.std.specs.declared.option.Option.{Option}
use Rattle.std.specs.List.{filter_map, list_any}
use Rattle.std.specs.Option.{option_map}
use Rattle.qp_model.specs.Ends.{spills_in}
use Rattle.qp_model.specs.OneOrder.{Placed, OneThread, stim_of, is_turn, no_look, parts_of_look}
use Rattle.qp_model.specs.OneOrder as order
use Rattle.qp_check_kernel.specs.declared.order_turns.InLook.{InLook}
use Rattle.qp_check_kernel.specs.declared.order_turns.InLook.TheVariants.{Nothing, Once, Often}
use Rattle.qp_check_kernel.specs.declared.source_turn.StimulusPlace.{StimulusPlace}
use Rattle.qp_check_kernel.specs.declared.source_turn.Progress.{Progress}
use Rattle.qp_check_kernel.specs.declared.order_turns.Run.{Run}
use Rattle.qp_check_kernel.specs.StimulusIndex.{parts_at}
use Rattle.qp_check_kernel.specs.Turns.{as_turn, next_turn}

-- the stimulus that a record begins
abbrev pub turn_in : Placed → Option order.Turn
turn_in x = option_map (λ s. record { source = x.lane; place = s.0 }) (stim_of x.item.body)

abbrev pub turns_in : List Placed → List order.Turn
turns_in xs = filter_map turn_in xs

-- with one stimulus more
abbrev pub turns_on : InLook → Option StimulusPlace → InLook
turns_on found None = found
turns_on Nothing (Some t) = Once t
turns_on (Once s) (Some t) = Often
turns_on Often (Some t) = Often

-- just this stimulus was found, or none where it is none
abbrev pub is_turn_found : Option order.Turn → InLook → Bool
is_turn_found None Nothing = true
is_turn_found (Some t) (Once s) = (s.source == t.source) && (s.place == t.place)
is_turn_found _ _ = false

-- what is found of these stimuli: none, just this one, or more
abbrev pub found_of : List order.Turn → Option (Option order.Turn)
found_of [] = None
found_of (t ∷ []) = Some (Some t)
found_of (s ∷ t ∷ ts) = Some None

abbrev pub as_found : InLook → Option (Option order.Turn)
as_found Nothing = None
as_found (Once t) = Some (Some (as_turn t))
as_found Often = Some None

-- a look has the stimulus that acts in it, or it is the last and a `spill` stands
abbrev pub look_stands : Run → Progress → List Placed → Option (ℕ × ℕ) → Bool
look_stands r p after None = true
look_stands r p after (Some l) =
    is_turn (next_turn p r.sys.now r.stimuli.now (l.1 == 0)) (turns_in (parts_at r.index.now l.0))
    || (r.spills && no_look after && is_turn None (turns_in (parts_at r.index.now l.0)))

-- what is at hand is that of the run
pub record RunsAs (run : Run) (r : OneThread) : Type 0 where
  pub sys : run.sys.now ≡ r.sys
  pub stimuli : run.stimuli.now ≡ r.stimuli
  pub index : (k : ℕ) → parts_at run.index.now k ≡ parts_of_look 1 k r.cuts r.sources
  pub spills : run.spills ≡ (spills_in r.lane0 || list_any spills_in r.sources)
