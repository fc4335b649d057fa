-- The pieces of an object in lane 0, record by record.
use Rattle.std.proofs.Common.{◌≡◌, ◌∙◌, ℕ, ◌+◌, ◌<◌, ◌≤◌, ◌==◌, Bool, true, false, cond, List, [], ◌∷◌, ◌++◌, length, drop, get_or, Some, None, IsSome, subst, ap, sym, refl, append_assoc, append-nil, arith}
use Rattle.std.specs.declared.option.Option.{Option}
use Rattle.std.specs.Option.{option_and_then, unwrap_or}
use Rattle.std.proofs.lemmas.Bool.{false≢true}
use Rattle.std.proofs.lemmas.Bool.Decides.{nat_tests}
use Rattle.std.proofs.lemmas.List.{at_drop_all}
use Rattle.qp_model.specs.declared.record.Rec.{Rec}
use Rattle.qp_model.specs.Record.{Item, item_of}
use Rattle.qp_model.specs.History.{lane_items}
use Rattle.qp_model.specs.Ends.{is_turn_mark}
use Rattle.qp_model.specs.KernelLane.{Setting, Reading, Upcoming, Inside, lane_next, lane_on}
use Rattle.qp_model.specs.Knowing.{Facts, told}
use Rattle.qp_model.specs.Pieces.{Piece, Tell, Point}
use Rattle.qp_model.specs.Points.{begins_row, is_look, pieces_at, pieces_in}
use Rattle.qp_model.proofs.NumberLemmas.{eqb-sym}
use Rattle.qp_model.proofs.KernelRowLemmas.{no-row}
use Rattle.qp_check_lanes.specs.Options.{allowed}
use Rattle.qp_check.specs.ObjectPieces.{is_it, listed, own_piece, point_of, stepping}
use Rattle.qp_check_lanes.proofs.ItemLemmas.{items-from, items-none}

point-own : (of : ℕ) (place : Upcoming) (running : List ℕ) → is_it of (stepping of place running) ≡ false
point-own of Inside (p ∷ outer) = go (p == of) refl
  where
    go : (b : Bool) → (p == of) ≡ b → is_it of (cond b None (Some p)) ≡ false
    go true e = refl
    go false e = e
point-own of _ _ = refl

point-other : (o of : ℕ) (place : Upcoming) (running : List ℕ) → (of == o) ≡ false → begins_row o place running true ≡ is_it o (stepping of place running)
point-other o of Inside (p ∷ outer) other = go (p == of) refl (p == o) refl
  where
    go : (a : Bool) → (p == of) ≡ a → (b : Bool) → (p == o) ≡ b → (p == o) ≡ is_it o (cond a None (Some p))
    go true e true f = let bad : (of == o) ≡ true = grind (arith, nat_tests) in absurd (cc)
    go true e false f = f
    go false e b f = refl
point-other o of _ _ other = refl

-- what a record is to an object
pub pieces-are : (w : Facts) (o : ℕ) (k : Reading) (i : Item)
    → pieces_at w o k i ≡ cond (o == i.of) (listed (own_piece w k.ceiling i)) [] ++ cond (is_it o (point_of k i)) (Point ∷ []) []
unfolding pieces_at own_piece
pieces-are w o k i = go (i.of == o) refl (is_look i.body) refl
  where
    flip : (m n : ℕ) (b : Bool) → (m == n) ≡ b → (n == m) ≡ b
    flip m n b e = eqb-sym n m ∙ e

    own : (t : Bool) → cond t [] (Tell (told w i.of k.ceiling i.body) ∷ []) ≡ listed (cond t None (Some (Tell (told w i.of k.ceiling i.body))))
    own true = refl
    own false = refl

    go : (b : Bool) → (i.of == o) ≡ b → (l : Bool) → is_look i.body ≡ l
        → cond b (cond (is_turn_mark i.body) [] (Tell (told w o k.ceiling i.body) ∷ [])) (cond (begins_row o k.place k.running l) (Point ∷ []) [])
        ≡ cond (o == i.of) (listed (cond (is_turn_mark i.body) None (Some (Tell (told w i.of k.ceiling i.body))))) [] ++ cond (is_it o (cond l (stepping i.of k.place k.running) None)) (Point ∷ []) []
    go true e true f =
        let is : o ≡ i.of = grind (arith, nat_tests) in
        rw (flip i.of o true e, is, point-own i.of k.place k.running) (own (is_turn_mark i.body) ∙ sym (append-nil (listed (cond (is_turn_mark i.body) None (Some (Tell (told w i.of k.ceiling i.body)))))))
    go true e false f =
        let is : o ≡ i.of = grind (arith, nat_tests) in
        rw (flip i.of o true e, is) (own (is_turn_mark i.body) ∙ sym (append-nil (listed (cond (is_turn_mark i.body) None (Some (Tell (told w i.of k.ceiling i.body)))))))
    go false e true f = rw (flip i.of o false e, point-other o i.of k.place k.running e) refl
    go false e false f = rw (flip i.of o false e, no-row o k.place k.running) refl

module _ (w : Facts) (s : Setting) (k : Reading) (lane : List Rec) (i : ℕ) where
  -- a lane that reads on, at its next record
  module _ (r : Rec) (inside : i < length lane) (is : r ≡ get_or lane i r) (next : Reading) (b : Bool) (reads : allowed b next ≡ lane_next s k (item_of r)) (stands : IsSome (lane_on s k (lane_items (drop i lane)))) where
    read-on : (t : Bool) → b ≡ t → (lane_next s k (item_of r) ≡ Some next) × IsSome (lane_on s next (lane_items (drop (i + 1) lane)))
    unfolding lane_on
    read-on true e =
        let to : lane_next s k (item_of r) ≡ Some next = sym reads ∙ ap (λ t. allowed t next) e in
        (to, subst IsSome (ap (lane_on s k) (items-from lane i r inside is) ∙ ap (λ (x : Option Reading). option_and_then (λ n. lane_on s n (lane_items (drop (i + 1) lane))) x) to) stands)
    read-on false e =
        let no : lane_next s k (item_of r) ≡ None = sym reads ∙ ap (λ t. allowed t next) e in
        let bad : false ≡ true = subst IsSome (ap (lane_on s k) (items-from lane i r inside is) ∙ ap (λ (x : Option Reading). option_and_then (λ n. lane_on s n (lane_items (drop (i + 1) lane))) x) no) stands in
        absurd (false≢true bad)

    pub stands-next : IsSome (lane_on s next (lane_items (drop (i + 1) lane)))
    stands-next = (read-on b refl).1

    pub pieces-next : (o : ℕ) (new now all : List Piece) → new ≡ now ++ pieces_at w o k (item_of r) → now ++ pieces_in w s o k (lane_items (drop i lane)) ≡ all
        → new ++ pieces_in w s o next (lane_items (drop (i + 1) lane)) ≡ all
    unfolding pieces_in
    pieces-next o new now all put before =
        let rest = pieces_in w s o next (lane_items (drop (i + 1) lane)) in
        ap (λ l. l ++ rest) put ∙ append_assoc now (pieces_at w o k (item_of r)) rest
        ∙ ap (λ l. now ++ l) (sym (ap (pieces_in w s o k) (items-from lane i r inside is) ∙ ap (λ (x : Option Reading). pieces_at w o k (item_of r) ++ pieces_in w s o (unwrap_or x k) (lane_items (drop (i + 1) lane))) (read-on b refl).0))
        ∙ before

  pub pieces-end : (o : ℕ) (now all : List Piece) → length lane ≤ i → now ++ pieces_in w s o k (lane_items (drop i lane)) ≡ all → now ≡ all
  unfolding pieces_in
  pieces-end o now all h before =
      let none : pieces_in w s o k (lane_items (drop i lane)) ≡ [] = at_drop_all (λ l. pieces_in w s o k (lane_items l)) lane i h ∙ ap (pieces_in w s o k) items-none in
      sym (append-nil now) ∙ ap (λ l. now ++ l) (sym none) ∙ before
