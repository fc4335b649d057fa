-- The end of a journal, lane by lane.
use Rattle.std.proofs.Common.{◌≡◌, ◌∙◌, ℕ, ◌+◌, ◌<◌, ◌≤◌, Bool, true, false, ◌&&◌, ◌||◌, List, [], ◌∷◌, length, drop, get_or, ap, sym, refl, None, not, ◌==◌, IsTrue}
use Rattle.std.specs.List.{list_any, list_all}
use Rattle.std.proofs.lemmas.Bool.{and_parts}
use Rattle.std.proofs.lemmas.List.{drop_more, at_drop_all}
use Rattle.std.proofs.lemmas.List.Folds.{list_any-append}
use Rattle.std.specs.Cmp.Derive.{both_true as both}
use Rattle.qp_model.specs.declared.record.Rec.{Rec}
use Rattle.qp_model.specs.declared.systems.System.{System}
use Rattle.qp_model.specs.declared.journals.Journal.{Journal}
use Rattle.qp_model.specs.Record.{Item, item_of}
use Rattle.qp_model.specs.History.{lane_items, all_items}
use Rattle.qp_model.specs.Ends.{is_assert, is_end, quiet}
use Rattle.qp_model.specs.declared.bodies.Entry.{Entry}
use Rattle.qp_model.specs.End.{HasEnd, end_of, spent_right, spents_follow, spents_hold, lines_empty, blocks_rest}
use Rattle.qp_check_ends.specs.JournalEnd.{end_stands}
use Rattle.qp_check_lanes.proofs.ItemLemmas.{items-from, items-none}

-- a test of some record of some lane
pub lanes-any : (p : Item → Bool) (lanes : List (List Rec)) → list_any p (all_items lanes) ≡ list_any (λ lane. list_any p (lane_items lane)) lanes
unfolding all_items
lanes-any p [] = refl
lanes-any p (lane ∷ lanes) = list_any-append p (lane_items lane) (all_items lanes) ∙ ap (λ b. list_any p (lane_items lane) || b) (lanes-any p lanes)

-- the three ends
pub asserted-is : (lanes : List (List Rec)) → list_any (λ lane. list_any (λ i. is_assert i.body) (lane_items lane)) lanes ≡ true → end_of (all_items lanes) ≡ 3
asserted-is lanes h = rw (lanes-any (λ i. is_assert i.body) lanes, h) refl

pub spent-is : (lanes : List (List Rec)) → list_any (λ lane. list_any (λ i. is_assert i.body) (lane_items lane)) lanes ≡ false
    → list_any (λ lane. list_any (λ i. is_end i.body) (lane_items lane)) lanes ≡ true → end_of (all_items lanes) ≡ 4
spent-is lanes h g = rw (lanes-any (λ i. is_assert i.body) lanes, h, lanes-any (λ i. is_end i.body) lanes, g) refl

pub quiet-is : (lanes : List (List Rec)) → list_any (λ lane. list_any (λ i. is_assert i.body) (lane_items lane)) lanes ≡ false
    → list_any (λ lane. list_any (λ i. is_end i.body) (lane_items lane)) lanes ≡ false → end_of (all_items lanes) ≡ 0
quiet-is lanes h g = rw (lanes-any (λ i. is_assert i.body) lanes, h, lanes-any (λ i. is_end i.body) lanes, g) refl

-- a test of all records, from one on
pub all-one : (p : Item → Bool) (lane : List Rec) (i : ℕ) (r : Rec) → i < length lane → r ≡ get_or lane i r
    → list_all p (lane_items (drop i lane)) ≡ (p (item_of r) && list_all p (lane_items (drop (i + 1) lane)))
all-one p lane i r inside is = ap (list_all p) (items-from lane i r inside is)

pub all-end : (p : Item → Bool) (lane : List Rec) (i : ℕ) → length lane ≤ i → list_all p (lane_items (drop i lane)) ≡ true
all-end p lane i h = at_drop_all (λ l. list_all p (lane_items l)) lane i h ∙ ap (list_all p) items-none

module _ (sys : System) (j : Journal) (lanes : List (List Rec)) (i : ℕ) where
  spents_hold-one : (lane : List Rec) → i < length lanes → lane ≡ get_or lanes i lane
      → spents_hold sys j i (drop i lanes) ≡ ((list_all (spent_right sys j i) (lane_items lane) && spents_follow None (lane_items lane)) && spents_hold sys j (i + 1) (drop (i + 1) lanes))
  unfolding spents_hold
  spents_hold-one lane inside is =
      ap (spents_hold sys j i) (drop_more lanes i lane inside)
      ∙ ap (λ l. (list_all (spent_right sys j i) (lane_items l) && spents_follow None (lane_items l)) && spents_hold sys j (i + 1) (drop (i + 1) lanes)) (sym is)

  module _ (lane : List Rec) (inside : i < length lanes) (is : lane ≡ get_or lanes i lane) (read : List Rec) (same : read ≡ lane) where
    pub spents_hold-broken : (list_all (spent_right sys j i) (lane_items read) && spents_follow None (lane_items read)) ≡ false → spents_hold sys j i (drop i lanes) ≡ false
    spents_hold-broken h =
        let here : (list_all (spent_right sys j i) (lane_items lane) && spents_follow None (lane_items lane)) ≡ false = rw (← same) h in
        spents_hold-one lane inside is ∙ ap (λ b. b && spents_hold sys j (i + 1) (drop (i + 1) lanes)) here

    pub spents_hold-kept : (list_all (spent_right sys j i) (lane_items read) && spents_follow None (lane_items read)) ≡ true
        → spents_hold sys j i (drop i lanes) ≡ spents_hold sys j (i + 1) (drop (i + 1) lanes)
    spents_hold-kept h =
        let here : (list_all (spent_right sys j i) (lane_items lane) && spents_follow None (lane_items lane)) ≡ true = rw (← same) h in
        spents_hold-one lane inside is ∙ ap (λ b. b && spents_hold sys j (i + 1) (drop (i + 1) lanes)) here

  pub spents_hold-end : length lanes ≤ i → spents_hold sys j i (drop i lanes) ≡ true
  unfolding spents_hold
  spents_hold-end h = at_drop_all (spents_hold sys j i) lanes i h

module _ (sys : System) (j : Journal) (deferred : List Entry) (queues blocks : Bool) (empty : queues ≡ lines_empty sys (all_items j.lanes)) (rest : blocks ≡ blocks_rest sys (all_items j.lanes) deferred) where
  -- with the tests of a quiet end's words, these are all that the end asks
  pub HasEnd-from : IsTrue (end_stands sys j && (not (j.end == quiet) || queues) && (not (j.end == quiet) || blocks)) → HasEnd sys j deferred
  unfolding end_stands
  HasEnd-from h =
      let upto_queues = and_parts _ _ h in
      let upto_budgets = and_parts _ _ upto_queues.0 in
      let upto_room = and_parts _ _ upto_budgets.0 in
      let upto_spills = and_parts _ _ upto_room.0 in
      let upto_spents = and_parts _ _ upto_spills.0 in
      let upto_last = and_parts _ _ upto_spents.0 in
      let first = and_parts _ _ upto_last.0 in
      record {
        stated = first.0;
        last = first.1;
        spents = upto_last.1;
        spills = upto_spents.1;
        room = upto_spills.1;
        budgets = upto_room.1;
        queues = rw (← empty) upto_budgets.1;
        blocks = rw (← rest) upto_queues.1;
      }

  pub HasEnd-to : HasEnd sys j deferred → IsTrue (end_stands sys j && (not (j.end == quiet) || queues) && (not (j.end == quiet) || blocks))
  unfolding end_stands
  HasEnd-to h =
      let queued : (not (j.end == quiet) || queues) ≡ true = rw empty h.queues in
      let held : (not (j.end == quiet) || blocks) ≡ true = rw rest h.blocks in
      both (both (both (both (both (both (both h.stated h.last) h.spents) h.spills) h.room) h.budgets) queued) held
