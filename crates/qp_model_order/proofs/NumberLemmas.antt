-- The numbers that records draw and show, in the order in which they were made.
use Rattle.std.proofs.Common.{◌≡◌, suc, ◌+◌, ◌==◌, true, List, [], ◌∷◌, ◌++◌, map, refl, sym, ◌∙◌, ap, subst, arith, append_assoc, append-nil, ℕ, Bool, ◌&&◌, Some}
use Rattle.std.specs.List.{find}
use Rattle.std.proofs.lemmas.Bool.{and_from, and_parts}
use Rattle.std.proofs.lemmas.List.{map-append}
use Rattle.qp_model.specs.declared.record.Rec.{Rec}
use Rattle.qp_model.specs.declared.words.Word.{Word}
use Rattle.qp_model.specs.Record.{Item, item_of}
use Rattle.qp_model.specs.History.{Touch, Draws, Shows, Neither, touch, total, lane_items, all_items}
use Rattle.qp_model.specs.Places.{is_next, in_order}
use Rattle.qp_model.specs.declared.stimulus.Stim.{Stim}
use Rattle.qp_model.specs.declared.systems.System.{System}
use Rattle.qp_model.specs.OneOrder.{Placed, Turn, acts_next, begun, stimuli_after, may_act, turned, all_empty, acted_last}
use Rattle.qp_model.proofs.ListLemmas.{mapped}
use Rattle.qp_model.proofs.HistoryLemmas.{total-append}
use Rattle.qp_model_order.specs.Laws.{AreNumberedInOrder}

-- a lane and one record more
pub total-lane : (w : Word) (front : List (List Rec)) (lane : List Rec) (back : List (List Rec)) (r : Rec)
    → total w (all_items (front ++ (lane ++ r ∷ []) ∷ back)) ≡ total w (all_items (front ++ lane ∷ back)) + total w (item_of r ∷ [])
unfolding all_items lane_items
total-lane w [] lane back r =
    let items = lane_items lane in
    let whole = map-append item_of lane (r ∷ []) in
    let a = total-append w (map item_of lane ++ item_of r ∷ []) (all_items back) in
    let b = total-append w (map item_of lane) (item_of r ∷ []) in
    let c = total-append w (map item_of lane) (all_items back) in
    ap (λ x. total w (x ++ all_items back)) whole ∙ omega (arith, a, b, c)
total-lane w (l ∷ front) lane back r =
    let a = total-append w (map item_of l) (all_items (front ++ (lane ++ r ∷ []) ∷ back)) in
    let b = total-append w (map item_of l) (all_items (front ++ lane ∷ back)) in
    let c = total-lane w front lane back r in
    omega (arith, a, b, c)

in_order-append : (before xs ys : List Item) → in_order before xs ≡ true → in_order (before ++ xs) ys ≡ true → in_order before (xs ++ ys) ≡ true
unfolding in_order
in_order-append before [] ys h k = subst (λ z. in_order z ys ≡ true) (append-nil before) k
in_order-append before (x ∷ xs) ys h k =
    let parts = and_parts (is_next before (touch x)) (in_order (before ++ x ∷ []) xs) h in
    and_from _ _ parts.0 (in_order-append (before ++ x ∷ []) xs ys parts.1 (subst (λ z. in_order z ys ≡ true) (sym (append_assoc before (x ∷ []) xs)) k))

next-same : (xs ys : List Item) (t : Touch) → ((w : Word) → total w xs ≡ total w ys) → is_next xs t ≡ is_next ys t
unfolding is_next
next-same xs ys (Draws w mark) same = ap (λ n. mark == suc n) (same w)
next-same xs ys (Shows w mark) same = ap (λ n. mark == n) (same w)
next-same xs ys Neither same = refl

pub numbered-none : AreNumberedInOrder [] []
unfolding in_order
numbered-none = record { numbers = refl; totals = λ w. refl }

-- one record more, which draws or shows the next number of its word
pub numbered-next : (all more order : List Item) (i : Item) → AreNumberedInOrder all order → is_next all (touch i) ≡ true → ((w : Word) → total w more ≡ total w all + total w (i ∷ []))
    → AreNumberedInOrder more (order ++ i ∷ [])
unfolding in_order
numbered-next all more order i old next grows = record {
  numbers = in_order-append [] order (i ∷ []) old.numbers (and_from _ _ (next-same order all (touch i) old.totals ∙ next) refl);
  totals = λ w.
      let a = total-append w order (i ∷ []) in
      let b = old.totals w in
      let c = grows w in
      omega (arith, a, b, c);
}

-- the stimulus that acts is the source's next
pub acts-place : (sys : System) (stimuli : List (List Stim)) (xs : List Placed) (base : Bool) (t : Turn) → acts_next sys stimuli xs base ≡ Some t → t.place ≡ begun xs t.source + 1
unfolding acts_next
acts-place sys stimuli xs base t h =
    let x = mapped (λ (x : ℕ × List Stim). record { source = x.0; place = begun xs x.0 + 1 })
    (find (λ x. may_act (base && all_empty sys xs) x.1) (turned (acted_last 0 xs) (stimuli_after xs stimuli))) t h in
    let place : t.place ≡ begun xs x.0.0 + 1 = ap (λ (z : Turn). z.place) (sym x.2) in
    let source : t.source ≡ x.0.0 = ap (λ (z : Turn). z.source) (sym x.2) in
    place ∙ ap (λ j. begun xs j + 1) (sym source)
