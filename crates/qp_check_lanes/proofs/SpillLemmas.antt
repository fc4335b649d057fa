-- A lane whose only `spill` is its last record.
use Rattle.std.proofs.Common.{◌≡◌, ◌∙◌, ℕ, Bool, true, false, not, ◌&&◌, ◌||◌, List, [], ◌∷◌, ◌++◌, map, length, ap, refl, arith}
use Rattle.std.proofs.lemmas.List.{map-append}
use Rattle.qp_model.specs.declared.record.Rec.{Rec}
use Rattle.qp_model.specs.Record.{Item, item_of}
use Rattle.qp_model.specs.History.{lane_items}
use Rattle.qp_model.specs.Ends.{is_spill, spills_in, may_cut, spills_cut}

-- a `spill` cuts only as the last record
cut-last : (end : ℕ) (xs : List Item) (x : Item) → spills_cut end (xs ++ x ∷ []) ≡ (not (spills_in xs) && (not (is_spill x.body) || may_cut end))
unfolding spills_cut
cut-last end [] x = refl
cut-last end (i ∷ []) x = go (is_spill i.body)
  where
    go : (b : Bool) → (not b && (not (is_spill x.body) || may_cut end)) ≡ (not (b || false) && (not (is_spill x.body) || may_cut end))
    go true = refl
    go false = refl
cut-last end (i ∷ j ∷ xs) x = go (is_spill i.body) (cut-last end (j ∷ xs) x)
  where
    go : (b : Bool) → spills_cut end (j ∷ (xs ++ x ∷ [])) ≡ (not (spills_in (j ∷ xs)) && (not (is_spill x.body) || may_cut end))
        → (not b && spills_cut end (j ∷ (xs ++ x ∷ []))) ≡ (not (b || spills_in (j ∷ xs)) && (not (is_spill x.body) || may_cut end))
    go true h = refl
    go false h = h

pub spills-cut : (end : ℕ) (lane before : List Rec) (r : Rec) → lane ≡ before ++ r ∷ []
    → spills_cut end (lane_items lane) ≡ (not (spills_in (lane_items before)) && (not (is_spill (item_of r).body) || may_cut end))
unfolding lane_items
spills-cut end lane before r is = ap (λ l. spills_cut end (map item_of l)) is ∙ ap (spills_cut end) (map-append item_of before (r ∷ [])) ∙ cut-last end (map item_of before) (item_of r)

-- a lane without records
pub none-cut : (end : ℕ) (lane : List Rec) → length lane ≡ 0 → spills_cut end (lane_items lane) ≡ true
unfolding spills_cut lane_items
none-cut end [] h = refl
none-cut end (r ∷ rs) h = absurd (omega arith)
