-- Objects at their priorities, and the references that they keep.
use Rattle.std.proofs.Common.{◌≡◌, ◌≢◌, ℕ, zero, suc, ◌+◌, ◌≤◌, true, List, [], ◌∷◌, map, refl, sym, ◌∙◌, ap, Option, Some, None, arith}
use Rattle.std.specs.Prelude.{get_or, slice_get, slice_set}
use Rattle.std.proofs.lemmas.Option.{get_or_from_slice_get}
use Rattle.std.specs.List.{list_all}
use Rattle.std.specs.Option.{is_some}
use Rattle.qp_calls.specs.Tokens.{Token}
use Rattle.qp_calls.specs.Clauses.{entry_of}
use Rattle.qp_calls.specs.Deferring.{ChangeAlike, StandAll, is_named}
use Rattle.qp_calls.specs.LaneView.{LaneView}
use Rattle.qp_dispatch.specs.Resume.{held_in}
use Rattle.qp_model.specs.declared.systems.System.{System}
use Rattle.qp_kernel_turns.specs.declared.objects.Objects.{Objects}
use Rattle.qp_kernel_turns.specs.declared.objects.Slot.{Slot}
use Rattle.qp_kernel_turns.specs.Objects.{IsAt, PutsSlot}
use Rattle.qp_kernel_turns.specs.Knowing.{HandsCover, HandsFollow, kept_count, own_count}
use Rattle.qp_model.proofs.AbleLemmas.{some-same}

-- what was put stands there, and the others as before
pub get-put : {A : Type 0} (xs : List A) (p : ℕ) (x y : A) → slice_get xs p ≡ Some x → slice_get (slice_set xs p y) p ≡ Some y
get-put [] p x y h = absurd (cc)
get-put (z ∷ zs) zero x y h = refl
get-put (z ∷ zs) (suc p) x y h = get-put zs p x y h

pub get-other : {A : Type 0} (xs : List A) (p q : ℕ) (y : A) → p ≢ q → slice_get (slice_set xs p y) q ≡ slice_get xs q
get-other [] p q y h = refl
get-other (z ∷ zs) zero zero y h = absurd (h refl)
get-other (z ∷ zs) zero (suc q) y h = refl
get-other (z ∷ zs) (suc p) zero y h = refl
get-other (z ∷ zs) (suc p) (suc q) y h = get-other zs p q y (λ e. h (ap suc e))

count-put : (t : Token) (xs : List (Option Slot)) (p : ℕ) (slot later : Slot) → slice_get xs p ≡ Some (Some slot)
    → kept_count t (slice_set xs p (Some later)) + own_count t slot.object ≡ kept_count t xs + own_count t later.object
unfolding kept_count
count-put t [] p slot later h = absurd (cc)
count-put t (None ∷ xs) zero slot later h = absurd (cc)
count-put t (Some x ∷ xs) zero slot later h = let same : x ≡ slot = cc in rw same (omega arith)
count-put t (None ∷ xs) (suc p) slot later h = count-put t xs p slot later h
count-put t (Some x ∷ xs) (suc p) slot later h = let rest = count-put t xs p slot later h in omega (arith, rest)

count-own : (t : Token) (xs : List (Option Slot)) (p : ℕ) (slot : Slot) → slice_get xs p ≡ Some (Some slot) → own_count t slot.object ≤ kept_count t xs
unfolding kept_count
count-own t [] p slot h = absurd (cc)
count-own t (None ∷ xs) zero slot h = absurd (cc)
count-own t (Some x ∷ xs) zero slot h = let same : x ≡ slot = cc in rw same (omega arith)
count-own t (None ∷ xs) (suc p) slot h = count-own t xs p slot h
count-own t (Some x ∷ xs) (suc p) slot h = let rest = count-own t xs p slot h in omega (arith, rest)

-- where an object stands, another may
seats-put : (xs : List (Option Slot)) (p : ℕ) (slot later : Slot) → slice_get xs p ≡ Some (Some slot) → map (λ (x : Option Slot). is_some x) (slice_set xs p (Some later)) ≡ map (λ (x : Option Slot). is_some x) xs
seats-put [] p slot later h = absurd (cc)
seats-put (x ∷ xs) zero slot later h = let same : x ≡ Some slot = cc in rw same refl
seats-put (x ∷ xs) (suc p) slot later h = ap (λ bs. is_some x ∷ bs) (seats-put xs p slot later h)

-- one object's entries changed as the hands did
pub follow-put : (xs ys : Objects) (p : ℕ) (slot later : Slot) (v w : LaneView) → IsAt xs p slot → PutsSlot xs ys p later
    → ChangeAlike (map entry_of (held_in slot.object.lasting slot.object.stage)) (map entry_of (held_in later.object.lasting later.object.stage)) v w
    → HandsFollow xs v ys w
follow-put xs ys p slot later v w there put alike = record {
  counts = λ t.
      let one = count-put t xs.slots.items p slot later there in
      let all : kept_count t ys.slots.items + own_count t slot.object ≡ kept_count t xs.slots.items + own_count t later.object = rw put one in
      let hands = alike t in
      omega (arith, all, hands);
  seats = ap (map (λ (x : Option Slot). is_some x)) put ∙ seats-put xs.slots.items p slot later there;
}

-- nothing was put, and the hands are the same
pub follow-none : (xs : Objects) (v w : LaneView) → w.hands ≡ v.hands → HandsFollow xs v xs w
follow-none xs v w same = record { counts = λ t. rw same refl; seats = refl }

pub follow-then : (xs : Objects) (v : LaneView) (ys : Objects) (w : LaneView) (zs : Objects) (u : LaneView) → HandsFollow xs v ys w → HandsFollow ys w zs u → HandsFollow xs v zs u
follow-then xs v ys w zs u one two = record {
  counts = λ t. let a = one.counts t in let b = two.counts t in omega (arith, a, b);
  seats = two.seats ∙ one.seats;
}

pub cover-follows : (xs ys : Objects) (v w : LaneView) → HandsCover xs v → HandsFollow xs v ys w → HandsCover ys w
cover-follows xs ys v w cover follow t = let a = cover t in let b = follow.counts t in omega (arith, a, b)

-- what an object keeps stands
pub own-stand : (sys : System) (xs : Objects) (p : ℕ) (slot : Slot) (v : LaneView) → HandsCover xs v → IsAt xs p slot → v.sys ≡ sys
    → list_all (is_named sys) (held_in slot.object.lasting slot.object.stage) ≡ true → StandAll (held_in slot.object.lasting slot.object.stage) v
own-stand sys xs p slot v cover there of named = record {
  named = rw of named;
  counts = λ t. let a = cover t in let b = count-own t xs.slots.items p slot there in omega (arith, a, b);
}

-- what a read at the place found
pub at-index : (xs : List (Option Slot)) (i p : ℕ) (x : Option Slot) (slot found : Slot) → i ≡ p → slice_get xs p ≡ Some (Some slot) → x ≡ get_or xs i x → x ≡ Some found → found ≡ slot
at-index xs i p x slot found at there read is =
    let one : get_or xs p x ≡ Some slot = get_or_from_slice_get xs p (Some slot) x there in
    some-same (sym is ∙ read ∙ ap (λ n. get_or xs n x) at ∙ one)

pub at-none : (xs : List (Option Slot)) (i p : ℕ) (x : Option Slot) (slot : Slot) → i ≡ p → slice_get xs p ≡ Some (Some slot) → x ≡ get_or xs i x → x ≡ None → ⊥
at-none xs i p x slot at there read is =
    let one : get_or xs p x ≡ Some slot = get_or_from_slice_get xs p (Some slot) x there in
    let all : None ≡ Some slot = sym is ∙ read ∙ ap (λ n. get_or xs n x) at ∙ one in cc
