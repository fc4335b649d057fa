-- The stimuli that stand in a look, found one after another.
use Rattle.std.proofs.Common.{◌≡◌, ◌∙◌, ℕ, ◌+◌, ◌<◌, List, [], ◌∷◌, ◌++◌, map, length, take, get_or, Some, None, ap, sym, refl, append-nil}
use Rattle.std.specs.declared.option.Option.{Option}
use Rattle.std.specs.Option.{option_map}
use Rattle.std.specs.List.{filter_map}
use Rattle.std.proofs.lemmas.List.Elements.{filter_map-append}
use Rattle.qp_model.specs.OneOrder.{Placed}
use Rattle.qp_model.specs.OneOrder as order
use Rattle.qp_check_kernel.specs.declared.stimulus_index.Placed as code
use Rattle.qp_check_kernel.specs.declared.source_turn.StimulusPlace.{StimulusPlace}
use Rattle.qp_check_kernel.specs.declared.order_turns.InLook.{InLook}
use Rattle.qp_check_kernel.specs.declared.order_turns.InLook.TheVariants.{Nothing, Once, Often}
use Rattle.qp_check_kernel.specs.AsPlaced.{as_placed}
use Rattle.qp_check_kernel.specs.Turns.{as_turn}
use Rattle.qp_check_kernel.specs.OrderTurns.{turn_in, turns_in, turns_on, found_of, as_found}
use Rattle.qp_check_lanes.proofs.ItemLemmas.{map-up_to}

found_of-more : (ts : List order.Turn) (t : order.Turn) (found : InLook) (s : StimulusPlace) → as_turn s ≡ t → as_found found ≡ found_of ts → as_found (turns_on found (Some s)) ≡ found_of (ts ++ t ∷ [])
found_of-more [] t Nothing s e h = ap (λ x. Some (Some x)) e
found_of-more [] t (Once _) s e h = cc
found_of-more [] t Often s e h = cc
found_of-more (a ∷ []) t Nothing s e h = cc
found_of-more (a ∷ []) t (Once _) s e h = refl
found_of-more (a ∷ []) t Often s e h = cc
found_of-more (a ∷ b ∷ ts) t Nothing s e h = cc
found_of-more (a ∷ b ∷ ts) t (Once _) s e h = cc
found_of-more (a ∷ b ∷ ts) t Often s e h = refl

module _ (part : List code.Placed) (i : ℕ) (x : code.Placed) (inside : i < length part) (is : x ≡ get_or part i x) where
  pub found-more : (found new : InLook) (turn : Option StimulusPlace) → new ≡ turns_on found turn → option_map as_turn turn ≡ turn_in (as_placed x)
      → as_found found ≡ found_of (turns_in (map as_placed (take i part))) → as_found new ≡ found_of (turns_in (map as_placed (take (i + 1) part)))
  found-more found new turn e f h =
      ap as_found e ∙ go turn (turn_in (as_placed x)) f
      ∙ ap found_of (sym (ap turns_in (map-up_to as_placed part i x inside is) ∙ filter_map-append turn_in (map as_placed (take i part)) (as_placed x ∷ [])))
    where
      go : (turn : Option StimulusPlace) (t : Option order.Turn) → option_map as_turn turn ≡ t → as_found (turns_on found turn) ≡ found_of (turns_in (map as_placed (take i part)) ++ filter_map (λ y. y) (t ∷ []))
      go None t f = rw (← f) (h ∙ ap found_of (sym (append-nil (turns_in (map as_placed (take i part))))))
      go (Some s) t f = rw (← f) (found_of-more (turns_in (map as_placed (take i part))) (as_turn s) found s refl h)
