-- Lanes that stay the same lanes.
use Rattle.std.proofs.Common.{◌≡◌, ◌⊎◌, ℕ, suc, ◌<◌, ◌≤◌, Bool, true, false, List, [], ◌∷◌, length, refl, sym, ◌∙◌, ap, subst, inl, inr, arith, IsTrue, Some, None}
use Rattle.std.proofs.lemmas.Bool.Decides.{nat_tests}
use Rattle.qp_calls.specs.Clauses.{Stopped}
use Rattle.std.specs.List.{AllByRecursion, list_all}
use Rattle.qp_model.specs.WordLaw.{is_object}
use Rattle.qp_model.specs.declared.words.Word.{Word}
use Rattle.qp_calls.specs.LaneView.{LaneView, is_codeless}
use Rattle.qp_calls_log.specs.Meeting.{IsTogether}
use Rattle.qp_port_phases.specs.Lanes.{AreObjects, AreOneTable, AreTogether, IsTable, KeepEach, Kept, SameEach}
use Rattle.qp_port_phases.specs.Rows.{Numbers}
use Rattle.qp_port_phases.specs.Quiet.{AllBelow, FirstFound, HasFoundCode, IsCodeOf, IsUnstopped}
use Rattle.qp_port_phases.specs.Stopping.{Hears, SameCodes}
use Rattle.qp_port_phases.specs.Turns.{AreReady, TurnEach}

module _ {T : Type 0} (Ready : T → Type 0) (Same : T → T → Type 0) (waits remains : T → Bool) (numbers : T → Numbers) where
  pub keep-ready : (xs ys : List T) → KeepEach Ready Same waits remains numbers xs ys → AreReady Ready ys
  keep-ready [] [] h = tt
  keep-ready (x ∷ xs) (y ∷ ys) h = (h.0.ready, keep-ready xs ys h.1)
  keep-ready [] (y ∷ ys) h = absurd h
  keep-ready (x ∷ xs) [] h = absurd h

  pub keep-same : (xs ys : List T) → KeepEach Ready Same waits remains numbers xs ys → SameEach Same xs ys
  keep-same [] [] h = tt
  keep-same (x ∷ xs) (y ∷ ys) h = (h.0.same, keep-same xs ys h.1)
  keep-same [] (y ∷ ys) h = absurd h
  keep-same (x ∷ xs) [] h = absurd h

  pub keep-none : ((a : T) → Same a a) → (xs : List T) → AreReady Ready xs → KeepEach Ready Same waits remains numbers xs xs
  keep-none itself [] h = tt
  keep-none itself (x ∷ xs) h = (record { ready = h.0; same = itself x; waits_still = refl; remains_still = refl; numbers_still = refl }, keep-none itself xs h.1)

  pub kept-then : ((a b c : T) → Same a b → Same b c → Same a c) → (x y z : T) → Kept Ready Same waits remains numbers x y → Kept Ready Same waits remains numbers y z → Kept Ready Same waits remains numbers x z
  kept-then still x y z h k = record {
    ready = k.ready;
    same = still x y z h.same k.same;
    waits_still = k.waits_still ∙ h.waits_still;
    remains_still = k.remains_still ∙ h.remains_still;
    numbers_still = k.numbers_still ∙ h.numbers_still;
  }

  pub keep-then : ((a b c : T) → Same a b → Same b c → Same a c) → (xs ys zs : List T) → KeepEach Ready Same waits remains numbers xs ys → KeepEach Ready Same waits remains numbers ys zs → KeepEach Ready Same waits remains numbers xs zs
  keep-then still [] [] [] h k = tt
  keep-then still (x ∷ xs) (y ∷ ys) (z ∷ zs) h k = (kept-then still x y z h.0 k.0, keep-then still xs ys zs h.1 k.1)
  keep-then still [] (y ∷ ys) zs h k = absurd h
  keep-then still (x ∷ xs) [] zs h k = absurd h
  keep-then still [] [] (z ∷ zs) h k = absurd k
  keep-then still (x ∷ xs) (y ∷ ys) [] h k = absurd k

module _ {T : Type 0} (Same : T → T → Type 0) where
  pub same-each : ((a : T) → Same a a) → (xs : List T) → SameEach Same xs xs
  same-each itself [] = tt
  same-each itself (x ∷ xs) = (itself x, same-each itself xs)

  pub same-then : ((a b c : T) → Same a b → Same b c → Same a c) → (xs ys zs : List T) → SameEach Same xs ys → SameEach Same ys zs → SameEach Same xs zs
  same-then still [] [] [] h k = tt
  same-then still (x ∷ xs) (y ∷ ys) (z ∷ zs) h k = (still x y z h.0 k.0, same-then still xs ys zs h.1 k.1)
  same-then still [] [] (z ∷ zs) h k = absurd k
  same-then still [] (y ∷ ys) zs h k = absurd h
  same-then still (x ∷ xs) [] zs h k = absurd h
  same-then still (x ∷ xs) (y ∷ ys) [] h k = absurd k

module _ {T : Type 0} (Ready : T → Type 0) (Same Turned : T → T → Type 0) where
  pub went-ready : ((a b : T) → Turned a b → Ready b × Same a b) → (xs ys : List T) → TurnEach Turned xs ys → AreReady Ready ys
  went-ready went [] [] h = tt
  went-ready went (x ∷ xs) (y ∷ ys) h = ((went x y h.0).0, went-ready went xs ys h.1)
  went-ready went [] (y ∷ ys) h = absurd h
  went-ready went (x ∷ xs) [] h = absurd h

  pub went-same : ((a b : T) → Turned a b → Ready b × Same a b) → (xs ys : List T) → TurnEach Turned xs ys → SameEach Same xs ys
  went-same went [] [] h = tt
  went-same went (x ∷ xs) (y ∷ ys) h = ((went x y h.0).1, went-same went xs ys h.1)
  went-same went [] (y ∷ ys) h = absurd h
  went-same went (x ∷ xs) [] h = absurd h

pub objects-still : (v w : LaneView) (ps : List ℕ) → IsTogether v w → AreObjects v ps → AreObjects w ps
objects-still v w ps moved h = subst (λ s. AllByRecursion (λ p. IsTrue (is_object s p)) ps) (sym moved.sys) h

module _ {T : Type 0} (view : T → LaneView) where
  pub below-rises : (v w : LaneView) → ((x : Word) → v.mark x ≤ w.mark x) → (xs : List T) → AllBelow view v xs → AllBelow view w xs
  below-rises v w up [] h = tt
  below-rises v w up (x ∷ xs) h = ((λ p. let a = h.0 p in let b = up p in omega (arith, a, b)), below-rises v w up xs h.1)

  -- the first lane went on, and so did the others
  pub together-first : (v w : LaneView) → IsTogether v w → (xs : List T) → AreTogether view v xs → AreTogether view w xs
  together-first v w moved [] h = tt
  together-first v w moved (x ∷ xs) h = (record { world = h.0.world ∙ sym moved.world; sys = h.0.sys ∙ sym moved.sys }, together-first v w moved xs h.1)

  module _ (Same : T → T → Type 0) (table : (a b : T) → Same a b → IsTogether (view a) (view b)) where
    pub together-others : (v : LaneView) (xs ys : List T) → SameEach Same xs ys → AreTogether view v xs → AreTogether view v ys
    together-others v [] [] same h = tt
    together-others v (x ∷ xs) (y ∷ ys) same h =
        let moved = table x y same.0 in
        (record { world = moved.world ∙ h.0.world; sys = moved.sys ∙ h.0.sys }, together-others v xs ys same.1 h.1)
    together-others v [] (y ∷ ys) same h = absurd same
    together-others v (x ∷ xs) [] same h = absurd same

    pub table-still : (objects : List ℕ) (xs ys : List T) → SameEach Same xs ys → AreOneTable view objects xs → AreOneTable view objects ys
    table-still objects [] [] same h = tt
    table-still objects (x ∷ xs) (y ∷ ys) same h = (
      together-first (view x) (view y) (table x y same.0) ys (together-others (view x) xs ys same.1 h.0),
      objects-still (view x) (view y) objects (table x y same.0) h.1,
    )
    table-still objects [] (y ∷ ys) same h = absurd same
    table-still objects (x ∷ xs) [] same h = absurd same

-- each of them is of a table with these objects
module _ {T : Type 0} (Ready : T → Type 0) (view : T → LaneView) (objects : List ℕ) where
  objects-others : (v : LaneView) (ys : List T) → AreObjects v objects → AreReady Ready ys → AreTogether view v ys → AreReady (λ y. Ready y × AreObjects (view y) objects) ys
  objects-others v [] h ready together = tt
  objects-others v (y ∷ ys) h ready together = ((ready.0, objects-still v (view y) objects together.0 h), objects-others v ys h ready.1 together.1)

  pub objects-each : (xs : List T) → AreReady Ready xs → AreOneTable view objects xs → AreReady (λ x. Ready x × AreObjects (view x) objects) xs
  objects-each [] ready h = tt
  objects-each (x ∷ xs) ready h = ((ready.0, h.1), objects-others (view x) xs h.1 ready.1 h.0)

pub one-table : {T : Type 0} (view : T → LaneView) (objects : List ℕ) (xs : List T) → AreOneTable view objects xs → IsTable view xs
one-table view objects [] h = tt
one-table view objects (x ∷ xs) h = h.0

-- what was heard of before is heard of still
pub found-since : (memory : Bool) (u v w : LaneView) → Hears u v → HasFoundCode memory v w → HasFoundCode memory u w
found-since memory u v w before h =
    let a = before.handed in
    let b = h.handed in
    record { code = h.code; others = h.others; answered = h.answered; which = h.which; handed = omega (arith, a, b); now = by before.found h.now }
  where
    by : (length u.answered ≤ length v.answered) ⊎ (length u.stops < length v.stops) → (length v.answered ≤ length h.others) ⊎ (length v.stops < length w.stops) → (length u.answered ≤ length h.others) ⊎ (length u.stops < length w.stops)
    by (inl k) (inl m) = inl (omega (arith, k, m))
    by (inr k) (inl m) = let b = h.handed in inr (omega (arith, k, b))
    by k (inr m) = let a = before.handed in inr (omega (arith, a, m))

pub first-since : {T : Type 0} (view : T → LaneView) (Same : T → T → Type 0) → ((a b : T) → Same a b → Hears (view a) (view b)) → (memory : Bool) (xs ys zs : List T) → SameEach Same xs ys → FirstFound view memory ys zs
    → FirstFound view memory xs zs
first-since view Same hears memory (x ∷ xs) (y ∷ ys) (z ∷ zs) same h = found-since memory (view x) (view y) (view z) (hears x y same.0) h
first-since view Same hears memory [] (y ∷ ys) zs same h = absurd same
first-since view Same hears memory xs [] zs same h = absurd h
first-since view Same hears memory (x ∷ xs) (y ∷ ys) [] same h = absurd h

-- a code was found in the stop word
found : (memory : Bool) (u v w : LaneView) (code : ℕ) → SameCodes u v → Stopped v w (Some code) → IsCodeOf memory code → HasFoundCode memory u w
found memory u v w code same h which =
    let handed : w.stops ≡ u.stops = ap (λ x. x.stops) h.0 ∙ same.0 in
    let long = ap length handed in
    let heard = ap length same.1 in
    record { code = code; others = v.answered; answered = ap (λ x. x.answered) h.0; which = which; handed = omega (arith, long); now = inl (omega (arith, heard)) }

pub found-seven : (u v w : LaneView) (code : ℕ) → SameCodes u v → Stopped v w (Some code) → code ≡ 7 → HasFoundCode true u w
found-seven u v w code same h is = found true u v w code same h is

pub found-other : (u v w : LaneView) (code : ℕ) → SameCodes u v → Stopped v w (Some code) → (code ≡ 7 → ⊥) → HasFoundCode false u w
found-other u v w code same h other = let some = h.1 in let few = h.2 in found false u v w code same h (some, grind (arith, nat_tests, other, some, few))

-- none was found, and the looks behind that are no words with it
pub unstopped-still : (u v w : LaneView) → Stopped u v None → SameCodes v w → IsUnstopped w
unstopped-still u v w h same =
    let is : v ≡ record u { asked = suc u.asked } = h.0 in (
      same.0 ∙ ap (λ x. x.stops) is ∙ h.1,
      same.1 ∙ ap (λ x. x.answered) is ∙ h.2,
      subst (λ a. IsTrue (list_all is_codeless a.purses)) (sym (same.2 ∙ ap (λ x. x.aside) is)) h.3,
    )
