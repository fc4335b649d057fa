-- A `spill` right behind a record of an object, at the end of a lane.
use Rattle.std.proofs.Common.{◌≡◌, ◌∙◌, ℕ, ◌==◌, Bool, true, false, ◌&&◌, List, [], ◌∷◌, ◌++◌, map, length, refl, ap, arith}
use Rattle.std.proofs.lemmas.List.{map-append}
use Rattle.qp_model.specs.declared.record.Rec.{Rec}
use Rattle.qp_model.specs.Record.{Item, item_of}
use Rattle.qp_model.specs.History.{lane_items}
use Rattle.qp_model.specs.Ends.{is_spill}
use Rattle.qp_model.specs.Lawful.{spill_cuts}
use Rattle.qp_check_knowledge.specs.SpillCuts.{ends_with}

last-of : (o : ℕ) (xs : List Item) (x : Item) → ends_with o (xs ++ x ∷ []) ≡ (x.of == o)
last-of o [] x = refl
last-of o (i ∷ []) x = refl
last-of o (i ∷ j ∷ xs) x = last-of o (j ∷ xs) x

last-cuts : (o : ℕ) (xs : List Item) (x : Item) → spill_cuts o (xs ++ x ∷ []) ≡ (is_spill x.body && ends_with o xs)
last-cuts o [] x = go (is_spill x.body)
  where
    go : (b : Bool) → false ≡ (b && false)
    go true = refl
    go false = refl
last-cuts o (i ∷ []) x = refl
last-cuts o (i ∷ j ∷ []) x = refl
last-cuts o (i ∷ j ∷ k ∷ xs) x = last-cuts o (j ∷ k ∷ xs) x

module _ (lane front : List Rec) (r : Rec) (is : lane ≡ front ++ r ∷ []) where
  items-last : lane_items lane ≡ lane_items front ++ item_of r ∷ []
  unfolding lane_items
  items-last = ap (map item_of) is ∙ map-append item_of front (r ∷ [])

  pub ends-with : (o : ℕ) → ends_with o (lane_items lane) ≡ ((item_of r).of == o)
  ends-with o = ap (ends_with o) items-last ∙ last-of o (lane_items front) (item_of r)

  pub spill-cuts : (o : ℕ) → spill_cuts o (lane_items lane) ≡ (is_spill (item_of r).body && ends_with o (lane_items front))
  spill-cuts o = ap (spill_cuts o) items-last ∙ last-cuts o (lane_items front) (item_of r)

-- no record stands there
pub none-ends : (o : ℕ) (lane : List Rec) → length lane ≡ 0 → ends_with o (lane_items lane) ≡ false
unfolding lane_items
none-ends o [] h = refl
none-ends o (r ∷ rs) h = absurd (omega arith)

pub none-cuts : (o : ℕ) (lane : List Rec) → length lane ≡ 0 → spill_cuts o (lane_items lane) ≡ false
unfolding lane_items
none-cuts o [] h = refl
none-cuts o (r ∷ rs) h = absurd (omega arith)
