-- What the end asks of a lane, record by record.
use Rattle.std.proofs.Common.{◌≡◌, ◌∙◌, ℕ, ◌+◌, ◌<◌, ◌≤◌, true, not, ◌&&◌, ◌||◌, List, [], ◌∷◌, ◌++◌, map, length, drop, get_or, ap, refl, arith}
use Rattle.std.specs.declared.option.Option.{Option}
use Rattle.std.specs.List.{list_all}
use Rattle.std.proofs.lemmas.List.{at_drop_all}
use Rattle.qp_model.specs.declared.record.Rec.{Rec}
use Rattle.qp_model.specs.Record.{Item, item_of}
use Rattle.qp_model.specs.History.{lane_items}
use Rattle.qp_model.specs.Ends.{is_end, is_spent, ends_last}
use Rattle.qp_model.specs.End.{spill_states, spills_state, shown_entry, is_its_object, spents_follow}
use Rattle.qp_check_lanes.proofs.ItemLemmas.{items-from, items-none}

-- nothing follows an end where no record but the last is one
module _ {X : Type 0} (said : X → Item) where
  ends_last-snoc : (front : List X) (x : X) → ends_last (map said (front ++ x ∷ [])) ≡ list_all (λ y. not (is_end (said y).body)) front
  unfolding ends_last
  ends_last-snoc [] x = refl
  ends_last-snoc (y ∷ []) x = refl
  ends_last-snoc (y ∷ z ∷ front) x = ap (λ b. not (is_end (said y).body) && b) (ends_last-snoc (z ∷ front) x)

  pub ends_last-front : (all front : List X) (x : X) → all ≡ front ++ x ∷ [] → ends_last (map said all) ≡ list_all (λ y. not (is_end (said y).body)) front
  ends_last-front all front x e = rw e (ends_last-snoc front x)

  pub ends_last-none : (all : List X) → length all ≡ 0 → ends_last (map said all) ≡ true
  unfolding ends_last
  ends_last-none [] h = refl
  ends_last-none (x ∷ xs) h = absurd (omega arith)

module _ (lane : List Rec) (i : ℕ) (r : Rec) (inside : i < length lane) (is : r ≡ get_or lane i r) where
  pub spills_state-one : (n : ℕ) → spills_state n (lane_items (drop i lane)) ≡ (spill_states n (item_of r).body && spills_state (n + 1) (lane_items (drop (i + 1) lane)))
  unfolding spills_state
  spills_state-one n = ap (spills_state n) (items-from lane i r inside is)

  pub spents_follow-one : (shown : Option ℕ) → spents_follow shown (lane_items (drop i lane))
      ≡ ((not (is_spent (item_of r).body) || is_its_object (item_of r).of shown) && spents_follow (shown_entry (item_of r)) (lane_items (drop (i + 1) lane)))
  unfolding spents_follow
  spents_follow-one shown = ap (spents_follow shown) (items-from lane i r inside is)

pub spills_state-end : (n : ℕ) (lane : List Rec) (i : ℕ) → length lane ≤ i → spills_state n (lane_items (drop i lane)) ≡ true
unfolding spills_state
spills_state-end n lane i h = at_drop_all (λ l. spills_state n (lane_items l)) lane i h ∙ ap (spills_state n) items-none

pub spents_follow-end : (shown : Option ℕ) (lane : List Rec) (i : ℕ) → length lane ≤ i → spents_follow shown (lane_items (drop i lane)) ≡ true
unfolding spents_follow
spents_follow-end shown lane i h = at_drop_all (λ l. spents_follow shown (lane_items l)) lane i h ∙ ap (spents_follow shown) items-none
