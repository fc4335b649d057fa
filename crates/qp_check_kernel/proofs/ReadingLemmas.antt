-- A kernel lane read on.
use Rattle.std.proofs.Common.{◌≡◌, ◌∙◌, ℕ, ◌+◌, ◌<◌, ◌≤◌, Bool, true, false, List, length, drop, get_or, Some, None, ap, sym}
use Rattle.std.proofs.lemmas.List.{at_drop_all}
use Rattle.std.specs.declared.option.Option.{Option}
use Rattle.std.specs.Option.{option_and_then}
use Rattle.qp_model.specs.declared.record.Rec.{Rec}
use Rattle.qp_model.specs.Record.{item_of}
use Rattle.qp_model.specs.History.{lane_items}
use Rattle.qp_model.specs.KernelLane.{Setting, Reading, lane_next, lane_on}
use Rattle.qp_check_lanes.specs.Options.{allowed}
use Rattle.qp_check_lanes.proofs.ItemLemmas.{items-from, items-none}

module _ (s : Setting) (k : Reading) (lane : List Rec) (i : ℕ) (r : Rec) (inside : i < length lane) (is : r ≡ get_or lane i r) where
  -- one record is read
  lane_on-one : lane_on s k (lane_items (drop i lane)) ≡ option_and_then (λ next. lane_on s next (lane_items (drop (i + 1) lane))) (lane_next s k (item_of r))
  unfolding lane_on
  lane_on-one = ap (lane_on s k) (items-from lane i r inside is)

  -- it may stand there
  pub lane_on-kept : (next : Reading) (b : Bool) → allowed b next ≡ lane_next s k (item_of r) → b ≡ true
      → lane_on s k (lane_items (drop i lane)) ≡ lane_on s next (lane_items (drop (i + 1) lane))
  lane_on-kept next b e h =
      lane_on-one ∙ ap (λ (o : Option Reading). option_and_then (λ n. lane_on s n (lane_items (drop (i + 1) lane))) o) (sym e ∙ ap (λ v. allowed v next) h)

  -- it may not
  pub lane_on-refused : (next : Reading) (b : Bool) → allowed b next ≡ lane_next s k (item_of r) → b ≡ false → lane_on s k (lane_items (drop i lane)) ≡ None
  lane_on-refused next b e h =
      lane_on-one ∙ ap (λ (o : Option Reading). option_and_then (λ n. lane_on s n (lane_items (drop (i + 1) lane))) o) (sym e ∙ ap (λ v. allowed v next) h)

-- no record is left
pub lane_on-end : (s : Setting) (k : Reading) (lane : List Rec) (i : ℕ) → length lane ≤ i → lane_on s k (lane_items (drop i lane)) ≡ Some k
unfolding lane_on
lane_on-end s k lane i h = at_drop_all (λ l. lane_on s k (lane_items l)) lane i h ∙ ap (lane_on s k) items-none
