-- Takes counted, where a count stands still at its type's end.
use Rattle.std.proofs.Common.{◌≡◌, ◌∙◌, ℕ, ◌+◌, ◌-◌, ◌^◌, ◌<◌, ◌==◌, nat_le, min, slice_index, cond, List, [], ◌∷◌, length, take, get_or, ap, refl, arith, zero-add}
use Rattle.std.proofs.lemmas.Bool.Decides.{nat_tests}
use Rattle.std.specs.declared.option.Option.{Option}
use Rattle.qp_model.specs.declared.record.Rec.{Rec}
use Rattle.qp_model.specs.Record.{item_of}
use Rattle.qp_model.specs.History.{lane_items, all_items}
use Rattle.qp_model.specs.End.{took_count, takes_of, is_its_object}
use Rattle.qp_check_ends.specs.declared.takes.Takes.{Takes}
use Rattle.qp_check_ends.specs.Takes.{AreTakesOf}
use Rattle.qp_check_lanes.proofs.ItemLemmas.{items-up_to, items-none, all_items-count}
use Rattle.qp_model.proofs.NumberLemmas.{count-append}

took_count-none : (o : ℕ) → took_count (lane_items []) o ≡ 0
unfolding took_count
took_count-none o = ap (λ l. took_count l o) items-none

module _ (o : ℕ) (lane : List Rec) (i : ℕ) (r : Rec) (inside : i < length lane) (is : r ≡ get_or lane i r) where
  took_count-more : took_count (lane_items (take (i + 1) lane)) o ≡ took_count (lane_items (take i lane)) o + cond (takes_of o (item_of r)) 1 0
  unfolding took_count
  took_count-more =
      ap (λ l. took_count l o) (items-up_to lane i r inside is) ∙ count-append (takes_of o) (lane_items (take i lane)) (item_of r ∷ [])
      ∙ ap (λ n. took_count (lane_items (take i lane)) o + n) (zero-add (cond (takes_of o (item_of r)) 1 0))

  -- one record more
  pub counted-more : (new now old : ℕ) (taker : Option ℕ) → new ≡ min (now + cond (is_its_object o taker) 1 0) (2 ^ 64 - 1)
      → now ≡ min (old + took_count (lane_items (take i lane)) o) (2 ^ 64 - 1) → takes_of o (item_of r) ≡ is_its_object o taker
      → new ≡ min (old + took_count (lane_items (take (i + 1) lane)) o) (2 ^ 64 - 1)
  counted-more new now old taker e f g = let step = took_count-more ∙ ap (λ b. took_count (lane_items (take i lane)) o + cond b 1 0) g in omega (arith, step, e, f)

-- no record
pub counted-none : (o now : ℕ) → now < 2 ^ 64 → now ≡ min (now + took_count (lane_items []) o) (2 ^ 64 - 1)
counted-none o now small = omega (arith, took_count-none o, small)

-- one lane more
pub counted-lane : (o : ℕ) (lanes : List (List Rec)) (i : ℕ) (lane : List Rec) (new now : ℕ) → i < length lanes → lane ≡ get_or lanes i lane
    → new ≡ min (now + took_count (lane_items lane) o) (2 ^ 64 - 1) → now ≡ min (took_count (all_items (take i lanes)) o) (2 ^ 64 - 1)
    → new ≡ min (took_count (all_items (take (i + 1) lanes)) o) (2 ^ 64 - 1)
unfolding took_count
counted-lane o lanes i lane new now inside is e f = omega (arith, all_items-count (takes_of o) lanes i lane inside is, e, f)

-- no lane
pub counted-no_lane : (o : ℕ) → min (took_count (all_items []) o) (2 ^ 64 - 1) ≡ 0
unfolding took_count all_items
counted-no_lane o = refl

-- a budget is below the type's end
pub capped-eq : (n b : ℕ) → b < 2 ^ 32 → (min n (2 ^ 64 - 1) == b) ≡ (n == b)
capped-eq n b h = grind (arith, nat_tests)

pub capped-le : (n b : ℕ) → b < 2 ^ 32 → nat_le (min n (2 ^ 64 - 1)) b ≡ nat_le n b
capped-le n b h = grind (arith, nat_tests)

module _ (lanes : List (List Rec)) (t : Takes) (takes : AreTakesOf lanes t) (o count b : ℕ) (known : o < 256) (small : b < 2 ^ 32) (is : count ≡ slice_index t.counts o) where
  pub spent-is : (count == b) ≡ (took_count (all_items lanes) o == b)
  spent-is = ap (λ n. n == b) (is ∙ takes o known) ∙ capped-eq (took_count (all_items lanes) o) b small

  pub within-is : nat_le count b ≡ nat_le (took_count (all_items lanes) o) b
  within-is = ap (λ n. nat_le n b) (is ∙ takes o known) ∙ capped-le (took_count (all_items lanes) o) b small
