-- Lanes as seats of the core, and what their tests find.
use Rattle.std.proofs.Common.{◌≡◌, ℕ, zero, suc, ◌+◌, ◌-◌, ◌<◌, ◌≤◌, ◌||◌, nat_lt, nat_le, List, [], ◌∷◌, ◌++◌, map, Bool, true, false, cond, length, get_or, slice_get, refl, sym, ap, ◌∙◌, arith, append-nil}
use Rattle.std.specs.List.{list_any}
use Rattle.std.specs.Option.{option_map_or}
use Rattle.std.proofs.lemmas.Bool.{and_from}
use Rattle.std.proofs.lemmas.Bool.Decides.{nat_tests}
use mathlib.Core.Option.{some, some-ne-none}
use lib.ListN.{get_elem?}
use Rattle.qp_model.specs.declared.record.Rec.{Rec}
use Rattle.qp_model.specs.declared.systems.PoolDef.{PoolDef}
use Rattle.qp_model.specs.declared.systems.System.{System}
use Rattle.qp_model.specs.Record.{Item, item_of, body_of}
use Rattle.qp_model.specs.Parts.{sizes_of}
use Rattle.qp_table.specs.Counting.{Each, sum_over, many}
use Rattle.qp_table.specs.Rule.{Holds}
use Rattle.qp_table.specs.After.{HasRoom, logged}
use Rattle.qp_table.specs.declared.view.SeatLog.{SeatLog}
use Rattle.qp_table.specs.declared.view.View.{View}
use Rattle.qp_core_steps.specs.Seats.{seat_may_act, may_add}
use Rattle.qp_core_steps.specs.Blocks.{block_size}
use Rattle.qp_table.specs.Asked.{size_of as room_of}
use Rattle.qp_table.specs.Lane.{first_number}
use Rattle.qp_shared_core.specs.CoreStep.{seat_of}

pub lt-of : (x y : ℕ) → x < y → nat_lt x y ≡ true
lt-of x y h = grind (arith, nat_tests)

pub le-of : (x y : ℕ) → x ≤ y → nat_le x y ≡ true
le-of x y h = grind (arith, nat_tests)

module _ {A : Type 0} where
  -- what is counted is found
  pub many-any : (t : A → Bool) (xs : List A) → 0 < many t xs → list_any t xs ≡ true
  many-any t [] h = absurd (omega arith)
  many-any t (x ∷ xs) h = go (t x) h (many-any t xs)
    where
      go : (b : Bool) → 0 < cond {A = ℕ} b 1 0 + many t xs → (0 < many t xs → list_any t xs ≡ true) → (b || list_any t xs) ≡ true
      go true h r = refl
      go false h r = r (omega arith)

  pub none-any : (t : A → Bool) (xs : List A) → many t xs ≡ 0 → list_any t xs ≡ false
  none-any t [] h = refl
  none-any t (x ∷ xs) h = go (t x) h (none-any t xs)
    where
      go : (b : Bool) → cond {A = ℕ} b 1 0 + many t xs ≡ 0 → (many t xs ≡ 0 → list_any t xs ≡ false) → (b || list_any t xs) ≡ false
      go true h r = absurd (omega arith)
      go false h r = r (omega arith)

  -- by another test
  pub any-then : (t s : A → Bool) → ((x : A) → t x ≡ true → s x ≡ true) → (xs : List A) → list_any t xs ≡ true → list_any s xs ≡ true
  any-then t s to [] h = h
  any-then t s to (x ∷ xs) h = go (t x) (s x) refl refl h (any-then t s to xs)
    where
      go : (b c : Bool) → t x ≡ b → s x ≡ c → (b || list_any t xs) ≡ true → (list_any t xs ≡ true → list_any s xs ≡ true) → (c || list_any s xs) ≡ true
      go b true e f h r = refl
      go true false e f h r = let w : true ≡ false = sym (to x e) ∙ f in absurd (cc)
      go false false e f h r = r h

  within : (xs : List A) (i : ℕ) (x : A) → get_elem? xs i ≡ some x → i < length xs
  within [] i x e = absurd (some-ne-none x (sym e))
  within (y ∷ xs) zero x e = omega arith
  within (y ∷ xs) (suc i) x e = let r = within xs i x e in omega arith

  pub if-list : (b : Bool) (xs : List A) (x : A) → cond {A = List A} b (xs ++ x ∷ []) xs ≡ xs ++ cond {A = List A} b (x ∷ []) []
  if-list true xs x = refl
  if-list false xs x = sym (append-nil xs)

pub same-number : (r : Rec) (logs : List SeatLog) → first_number (logged r logs) ≡ first_number logs
same-number r [] = refl
same-number r (g ∷ gs) = refl

pub body-is : (r : Rec) (i : Item) → item_of r ≡ i → body_of r ≡ i.body
unfolding item_of
body-is r i e = ap (λ (j : Item). j.body) e

size-at : (xs : List PoolDef) (i : ℕ) → get_or (map (λ d. d.size) xs) i 0 ≡ option_map_or (λ d. d.size) (slice_get xs i) 0
size-at [] zero = refl
size-at [] (suc i) = refl
size-at (x ∷ xs) zero = refl
size-at (x ∷ xs) (suc i) = size-at xs i

pub size-is : (sys : System) (p : ℕ) → room_of sys p ≡ block_size sys p
unfolding sizes_of
size-is sys p = size-at sys.pools (p - 1)

module _ (sys : System) (words : List ℕ) (views : List View) (holds : Holds sys words views) (id : ℕ) (v : View) (at : get_elem? views id ≡ some v) (o : ℕ) where
  below : first_number v.logs < 49
  below = let c = holds.logs.count in go v.logs (holds.logs.own id v at)
    where
      go : (logs : List SeatLog) → Each (λ (g : SeatLog). get_elem? holds.lanes g.number ≡ some g.recs) logs → first_number logs < 49
      go [] e = omega arith
      go (g ∷ gs) e = let w = within holds.lanes g.number g.recs e.0 in let c = holds.logs.count in omega arith

  pub acts : seat_may_act 49 (seat_of o v) ≡ true
  acts = lt-of (first_number v.logs) 49 below

  pub adds : HasRoom v → may_add 49 (seat_of o v) ≡ true
  adds room = and_from (nat_lt (first_number v.logs) 49) (nat_lt (sum_over (λ (g : SeatLog). length g.recs) v.logs) 1000001) (lt-of (first_number v.logs) 49 below) (lt-of (sum_over (λ (g : SeatLog). length g.recs) v.logs) 1000001 room.room)
