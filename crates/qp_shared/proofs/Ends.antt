-- The end of lanes, by their records.
use Rattle.std.proofs.Common.{◌≡◌, ◌∙◌, Bool, true, false, ◌||◌, List, [], ◌∷◌, ap, sym, refl}
use Rattle.std.specs.List.{list_any}
use Rattle.std.proofs.lemmas.List.Folds.{list_any-append}
use Rattle.qp_model.proofs.ListLemmas.{list_any-map}
use Rattle.qp_model.specs.declared.record.Rec.{Rec}
use Rattle.qp_model.specs.Record.{Item, item_of}
use Rattle.qp_model.specs.History.{lane_items, all_items}
use Rattle.qp_model.specs.Ends.{is_assert, is_end}
use Rattle.qp_model.specs.End.{end_of}

pub items-any : (p : Item → Bool) (lane : List Rec) → list_any (λ r. p (item_of r)) lane ≡ list_any p (lane_items lane)
unfolding lane_items
items-any p lane = sym (list_any-map p item_of lane)

-- a test of some record of some lane
lanes-any : (p : Item → Bool) (lanes : List (List Rec)) → list_any p (all_items lanes) ≡ list_any (λ lane. list_any p (lane_items lane)) lanes
unfolding all_items
lanes-any p [] = refl
lanes-any p (lane ∷ lanes) = list_any-append p (lane_items lane) (all_items lanes) ∙ ap (λ b. list_any p (lane_items lane) || b) (lanes-any p lanes)

-- the three ends
pub asserted-is : (lanes : List (List Rec)) → list_any (λ lane. list_any (λ i. is_assert i.body) (lane_items lane)) lanes ≡ true → end_of (all_items lanes) ≡ 3
asserted-is lanes h = rw (lanes-any (λ i. is_assert i.body) lanes, h) refl

pub spent-is : (lanes : List (List Rec)) → list_any (λ lane. list_any (λ i. is_assert i.body) (lane_items lane)) lanes ≡ false
    → list_any (λ lane. list_any (λ i. is_end i.body) (lane_items lane)) lanes ≡ true → end_of (all_items lanes) ≡ 4
spent-is lanes h g = rw (lanes-any (λ i. is_assert i.body) lanes, h, lanes-any (λ i. is_end i.body) lanes, g) refl

pub quiet-is : (lanes : List (List Rec)) → list_any (λ lane. list_any (λ i. is_assert i.body) (lane_items lane)) lanes ≡ false
    → list_any (λ lane. list_any (λ i. is_end i.body) (lane_items lane)) lanes ≡ false → end_of (all_items lanes) ≡ 0
quiet-is lanes h g = rw (lanes-any (λ i. is_assert i.body) lanes, h, lanes-any (λ i. is_end i.body) lanes, g) refl
