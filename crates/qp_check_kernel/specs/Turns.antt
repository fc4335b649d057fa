-- Which source acts, by what each has begun.
use Rattle.std.specs.Prelude.{◌≡◌, ℕ, ◌+◌, ◌==◌, Bool, ◌&&◌, List, [], ◌∷◌, drop, count_by}
use Rattle.std.specs.declared.option.Option.{Option}
use Rattle.std.specs.List.{find, list_all}
use Rattle.std.specs.Option.{option_map}
use Rattle.qp_model.specs.declared.stimulus.Stim.{Stim}
use Rattle.qp_model.specs.declared.systems.System.{System}
use Rattle.qp_model.specs.OneOrder.{may_act, turned, begun, acted_last, enters, leaves}
use Rattle.qp_model.specs.OneOrder as order
use Rattle.qp_check_kernel.specs.declared.source_turn.StimulusPlace.{StimulusPlace}
use Rattle.qp_check_kernel.specs.declared.source_turn.Progress.{Progress}
use Rattle.qp_check_lanes.specs.WordTotals.{count_in}

abbrev pub as_turn : StimulusPlace → order.Turn
as_turn t = record { source = t.source; place = t.place }

-- what each of these sources has left, the first of which has number k
unfoldable pub left_from : ℕ → (ℕ → ℕ) → List (List Stim) → List (ℕ × List Stim)
left_from k begun [] = []
left_from k begun (s ∷ ss) = (k, drop (begun k) s) ∷ left_from (k + 1) begun ss

-- the first source that may act
abbrev pub first_acting : Bool → List (ℕ × List Stim) → Option ℕ
first_acting rests left = option_map (λ x. x.0) (find (λ x. may_act rests x.1) left)

-- its next stimulus
abbrev pub turn_of : (ℕ → ℕ) → ℕ → order.Turn
turn_of begun source = record { source = source; place = begun source + 1 }

-- the stimulus that acts in a look, by what has been done
abbrev pub next_turn : Progress → System → List (List Stim) → Bool → Option order.Turn
next_turn p sys stimuli at_base =
    option_map (turn_of (count_in p.begun))
    (first_acting (at_base && list_all (λ d. count_in p.entered d.priority == count_in p.left d.priority) sys.objects) (turned p.last (left_from 1 (count_in p.begun) stimuli)))

-- what these records have done
pub record IsProgress (p : Progress) (before : List order.Placed) : Type 0 where
  pub begun : (s : ℕ) → count_in p.begun s ≡ begun before s
  pub entered : (o : ℕ) → count_in p.entered o ≡ count_by (λ x. enters o x.item) before
  pub left : (o : ℕ) → count_in p.left o ≡ count_by (λ x. leaves o x.item) before
  pub last : p.last ≡ acted_last 0 before
