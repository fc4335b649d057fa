-- Each record comes next by what the words hold, in any order in which the numbers stand.
use Rattle.std.proofs.Common.{◌≡◌, ℕ, zero, suc, List, [], ◌∷◌, Some, None, refl, subst}
use Rattle.std.specs.declared.option.Option.{Option}
use Rattle.std.specs.Option.{option_and_then}
use Rattle.std.specs.List.{slice_get, filter_map, cons_option, AllByRecursion}
use Rattle.qp_model.specs.declared.record.Rec.{Rec}
use Rattle.qp_model.specs.Record.{Item, item_of}
use Rattle.qp_model.specs.Knowing.{told, event_of_entry}
use Rattle.qp_model.specs.History.{all_items, lane_items}
use Rattle.qp_model.specs.Places.{RecordPlace, item_at, items_at}
use Rattle.qp_model.proofs.ListLemmas.{every-parts}
use Rattle.qp_unique.specs.Laws.{RecordsComeNext}
use Rattle.qp_unique.proofs.ComesLemmas.{comes-front, known-front}

module _ (P : Item → Type 0) where
  in-lane : (lane : List Rec) (at : ℕ) (r : Rec) → slice_get lane at ≡ Some r → AllByRecursion P (lane_items lane) → P (item_of r)
  unfolding lane_items
  in-lane [] at r is h = absurd (cc)
  in-lane (x ∷ xs) zero r is h = let same : x ≡ r = cc in subst (λ y. P (item_of y)) same h.0
  in-lane (x ∷ xs) (suc at) r is h = in-lane xs at r is h.1

  in-lanes : (lanes : List (List Rec)) (n : ℕ) (lane : List Rec) → slice_get lanes n ≡ Some lane → AllByRecursion P (all_items lanes) → AllByRecursion P (lane_items lane)
  unfolding all_items
  in-lanes [] n lane is h = absurd (cc)
  in-lanes (l ∷ ls) zero lane is h = let same : l ≡ lane = cc in subst (λ y. AllByRecursion P (lane_items y)) same (every-parts P (lane_items l) (all_items ls) h).0
  in-lanes (l ∷ ls) (suc n) lane is h = in-lanes ls n lane is (every-parts P (lane_items l) (all_items ls) h).1

  at-place : (lanes : List (List Rec)) (x : RecordPlace) (i : Item) → item_at lanes x ≡ Some i → AllByRecursion P (all_items lanes) → P i
  unfolding item_at
  at-place lanes x i is h = by (slice_get lanes x.lane) refl is
    where
      by : (o : Option (List Rec)) → slice_get lanes x.lane ≡ o → option_and_then (λ lane. option_and_then (λ r. Some (item_of r)) (slice_get lane x.at)) o ≡ Some i → P i
      by None e k = absurd (cc)
      by (Some lane) e k = on (slice_get lane x.at) refl k
        where
          on : (r : Option Rec) → slice_get lane x.at ≡ r → option_and_then (λ r. Some (item_of r)) r ≡ Some i → P i
          on None f k = absurd (cc)
          on (Some r) f k = let same : item_of r ≡ i = cc in subst P same (in-lane lane x.at r f (in-lanes lanes x.lane lane e h))

  places-in : (lanes : List (List Rec)) (order : List RecordPlace) → AllByRecursion P (all_items lanes) → AllByRecursion P (items_at lanes order)
  unfolding items_at
  places-in lanes [] h = tt
  places-in lanes (x ∷ order) h = by (item_at lanes x) refl (places-in lanes order h)
    where
      by : (o : Option Item) → item_at lanes x ≡ o → AllByRecursion P (filter_map (λ y. item_at lanes y) order) → AllByRecursion P (cons_option o (filter_map (λ y. item_at lanes y) order))
      by None e rest = rest
      by (Some i) e rest = (at-place lanes x i e h, rest)

pub records_come_next : RecordsComeNext
unfolding told
records_come_next sys lanes order words ordered xs x ys is named ceiling =
    record {
      may = comes-front sys lanes words (items_at lanes order) (λ P h. places-in P lanes order h) ordered xs ys (event_of_entry (record { sys = sys; items = all_items lanes })) ceiling x.of x.body is named;
      known = known-front sys lanes words (items_at lanes order) (λ P h. places-in P lanes order h) ordered xs ys (event_of_entry (record { sys = sys; items = all_items lanes })) ceiling x.of x.body is named
          (λ f l m e took. refl);
    }
