-- The log has each record once: as many operations of each word as all lanes together, and each number is that of the operations so far.
use Rattle.std.proofs.Common.{◌≡◌, ℕ, suc, ◌+◌, ◌<◌, Bool, true, false, List, [], ◌∷◌, ◌++◌, map, length, take, drop, slice_set, refl, sym, ◌∙◌, ap, arith, append_assoc, append-nil}
use Rattle.std.proofs.lemmas.Bool.{and_from, and_parts}
use Rattle.qp_model.specs.declared.record.Rec.{Rec}
use Rattle.qp_model.specs.declared.words.Word.{Word}
use Rattle.qp_model.specs.Record.{Item, item_of}
use Rattle.qp_model.specs.History.{Touch, touch, drawn_on, lane_items, all_items, total}
use Rattle.qp_model.specs.Places.{is_next, in_order}
use Rattle.qp_model.proofs.LineLemmas.{same_number}
use Rattle.qp_model.proofs.WordLemmas.{all_items-split}
use Rattle.qp_calls.specs.Counting.{one_if, times}
use Rattle.qp_plain_sound.specs.Log.{Orders, lane_recs, log_of, first_placed}
use Rattle.qp_model.specs.OneOrder.{items_placed}
use Rattle.qp_plain_sound.proofs.Marks.{Next, Drawing, Showing, Silent}
use Rattle.qp_plain_sound.proofs.Times.{times-append}
use Rattle.qp_plain_sound.proofs.Logs.{lane-there, orders-rest, some-first, without_first, lanes-split, lanes-grown}

pub none-left : (lanes : List (List Rec)) → ((a : ℕ) → 0 ≡ length (lane_recs lanes a)) → all_items lanes ≡ []
unfolding all_items lane_items
none-left [] h = refl
none-left (l ∷ ls) h = rw (empty l (h 0)) (none-left ls (λ a. h (suc a)))
  where
    empty : (l : List Rec) → 0 ≡ length l → map item_of l ≡ []
    empty [] e = refl
    empty (x ∷ xs) e = absurd (omega (arith, e))

-- a record counts alike wherever it stands
same-place : (p : Item → Bool) (xs : List Item) (i : Item) (ys zs : List Item) → times p zs ≡ times p (xs ++ ys) → times p (i ∷ zs) ≡ times p (xs ++ i ∷ ys)
unfolding times
same-place p xs i ys zs same = omega (arith, same, times-append p xs ys, times-append p xs (i ∷ ys))

-- the first record of the log stands at the front of its lane
module _ (p : Item → Bool) (lanes : List (List Rec)) (x : ℕ) (order : List ℕ) (orders : Orders lanes (x ∷ order))
    (later : times p (items_placed (log_of (without_first lanes x order orders) order)) ≡ times p (all_items (without_first lanes x order orders))) where
  there : x < length lanes
  there = lane-there lanes x (some-first lanes x order orders)

  times-cons : times p (items_placed (log_of lanes (x ∷ order))) ≡ times p (all_items lanes)
  unfolding log_of lane_items
  times-cons = go (lane_recs lanes x) refl (some-first lanes x order orders)
    where
      go : (l : List Rec) → lane_recs lanes x ≡ l → 0 < length l → times p (items_placed (first_placed x l (log_of (without_first lanes x order orders) order))) ≡ times p (all_items lanes)
      go [] e some = absurd (omega (arith, some))
      go (r ∷ rs) e some =
          let whole : all_items lanes ≡ all_items (take x lanes) ++ item_of r ∷ (map item_of rs ++ all_items (drop (suc x) lanes)) =
          ap all_items (lanes-split lanes x there) ∙ all_items-split (take x lanes) (lane_recs lanes x) (drop (suc x) lanes)
          ∙ ap (λ l. (all_items (take x lanes) ++ map item_of l) ++ all_items (drop (suc x) lanes)) e
          ∙ append_assoc (all_items (take x lanes)) (item_of r ∷ map item_of rs) (all_items (drop (suc x) lanes)) in
          let rest : all_items (slice_set lanes x (drop 1 (lane_recs lanes x))) ≡ all_items (take x lanes) ++ (map item_of rs ++ all_items (drop (suc x) lanes)) =
          ap all_items (lanes-grown lanes x (drop 1 (lane_recs lanes x)) there) ∙ all_items-split (take x lanes) (drop 1 (lane_recs lanes x)) (drop (suc x) lanes)
          ∙ ap (λ l. (all_items (take x lanes) ++ map item_of (drop 1 l)) ++ all_items (drop (suc x) lanes)) e
          ∙ append_assoc (all_items (take x lanes)) (map item_of rs) (all_items (drop (suc x) lanes)) in
          same-place p (all_items (take x lanes)) (item_of r) (map item_of rs ++ all_items (drop (suc x) lanes)) (items_placed (log_of (without_first lanes x order orders) order)) (later ∙ ap (times p) rest)
          ∙ sym (ap (times p) whole)

-- any test counts alike in the log and in the lanes
pub times-log : (p : Item → Bool) (lanes : List (List Rec)) (order : List ℕ) → Orders lanes order → times p (items_placed (log_of lanes order)) ≡ times p (all_items lanes)
unfolding times log_of
times-log p lanes [] orders = sym (ap (times p) (none-left lanes orders))
times-log p lanes (x ∷ order) orders = times-cons p lanes x order orders (times-log p (without_first lanes x order orders) order (orders-rest lanes x order orders))

total-times : (w : Word) (items : List Item) → total w items ≡ times (λ i. drawn_on w (touch i)) items
unfolding total times
total-times w [] = refl
total-times w (i ∷ items) = go (drawn_on w (touch i)) refl (total-times w items)
  where
    go : (u : Bool) → drawn_on w (touch i) ≡ u → total w items ≡ times (λ i. drawn_on w (touch i)) items → total w (i ∷ items) ≡ one_if u + times (λ i. drawn_on w (touch i)) items
    go true h ih = rw h (omega (arith, ih))
    go false h ih = rw h (omega (arith, ih))

pub total-log : (w : Word) (lanes : List (List Rec)) (order : List ℕ) → Orders lanes order → total w (items_placed (log_of lanes order)) ≡ total w (all_items lanes)
total-log w lanes order orders =
    total-times w (items_placed (log_of lanes order)) ∙ times-log (λ i. drawn_on w (touch i)) lanes order orders ∙ sym (total-times w (all_items lanes))

-- One record more in an order: its number is that of the operations before it.

pub in_order-push : (before xs : List Item) (i : Item) → in_order before xs ≡ true → is_next (before ++ xs) (touch i) ≡ true → in_order before (xs ++ i ∷ []) ≡ true
unfolding in_order
in_order-push before [] i h k = and_from _ _ (rw (append-nil before) at k) refl
in_order-push before (x ∷ xs) i h k = and_from _ _ (and_parts _ _ h).0 (in_order-push (before ++ x ∷ []) xs i (and_parts _ _ h).1 (rw (append_assoc before (x ∷ []) xs) k))

pub next-is : (items others : List Item) (t : Touch) → ((w : Word) → total w others ≡ total w items) → Next items t → is_next others t ≡ true
unfolding is_next
next-is items others t same (Drawing w is numbers) = rw (is, same w) (same_number (suc (total w items)))
next-is items others t same (Showing w is) = rw (is, same w) (same_number (total w items))
next-is items others t same (Silent is) = rw is refl
