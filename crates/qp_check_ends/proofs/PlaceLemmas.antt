-- Timers and objects from a place on.
use Rattle.std.proofs.Common.{◌≡◌, ℕ, ◌+◌, ◌<◌, ◌≤◌, ◌==◌, nat_lt, true, false, List, [], ◌∷◌, map, length, drop, get_or, refl, sym, ◌∙◌, ap, arith}
use Rattle.std.proofs.lemmas.Bool.Decides.{nat_tests}
use Rattle.std.proofs.lemmas.List.{drop_more, drop_all, drop-map}
use Rattle.qp_model.specs.declared.systems.TimerDef.{TimerDef}
use Rattle.qp_model.specs.declared.systems.ObjectDef.{ObjectDef}
use Rattle.qp_check_ends.specs.TickState.{dues}

-- a place that isn't among the timers
pub dues-past : (rate t from : ℕ) (ds : List TimerDef) → length ds ≤ from → dues rate t (drop from ds) ≡ []
unfolding dues
dues-past rate t from ds h = ap (dues rate t) (drop_all from ds h)

dues-first : (rate t : ℕ) (d : TimerDef) (ds : List TimerDef) → d.rate ≡ rate → dues rate t (d ∷ ds) ≡ record { t = t; object = d.object; sig = d.sig } ∷ dues rate (t + 1) ds
unfolding dues
dues-first rate t d ds h = let same : (d.rate == rate) ≡ true = grind (arith, nat_tests) in rw same refl

dues-other : (rate t : ℕ) (d : TimerDef) (ds : List TimerDef) → (d.rate ≡ rate → ⊥) → dues rate t (d ∷ ds) ≡ dues rate (t + 1) ds
unfolding dues
dues-other rate t d ds h = let other : (d.rate == rate) ≡ false = grind (arith, nat_tests) in rw other refl

module _ (rate place : ℕ) (ds : List TimerDef) (none : TimerDef) (inside : place < length ds) where
  -- a timer of the rate, and one of another
  pub dues-at : (get_or ds place none).rate ≡ rate
      → dues rate (place + 1) (drop place ds)
      ≡ record { t = place + 1; object = (get_or ds place none).object; sig = (get_or ds place none).sig } ∷ dues rate (place + 1 + 1) (drop (place + 1) ds)
  dues-at h = ap (dues rate (place + 1)) (drop_more ds place none inside) ∙ dues-first rate (place + 1) (get_or ds place none) (drop (place + 1) ds) h

  pub dues-over : ((get_or ds place none).rate ≡ rate → ⊥) → dues rate (place + 1) (drop place ds) ≡ dues rate (place + 1 + 1) (drop (place + 1) ds)
  dues-over h = ap (dues rate (place + 1)) (drop_more ds place none inside) ∙ dues-other rate (place + 1) (get_or ds place none) (drop (place + 1) ds) h

-- an object at a place, and a place that isn't among them
pub objects-at : (ds : List ObjectDef) (i : ℕ) (none : ObjectDef) → i < length ds
    → drop i (map (λ (d : ObjectDef). d.priority) ds) ≡ (get_or ds i none).priority ∷ drop (i + 1) (map (λ (d : ObjectDef). d.priority) ds)
objects-at ds i none h =
    let number : ObjectDef → ℕ = λ d. d.priority in
    drop-map number i ds ∙ ap (map number) (drop_more ds i none h) ∙ ap (λ xs. (get_or ds i none).priority ∷ xs) (sym (drop-map number (i + 1) ds))

pub objects-is : (ds : List ObjectDef) (i : ℕ) (d none : ObjectDef) → true ≡ nat_lt i (length ds) → d ≡ get_or ds i none
    → drop i (map (λ (d : ObjectDef). d.priority) ds) ≡ d.priority ∷ drop (i + 1) (map (λ (d : ObjectDef). d.priority) ds)
objects-is ds i d none inside is =
    let within : i < length ds = grind (arith, nat_tests) in
    objects-at ds i none within ∙ ap (λ (x : ObjectDef). x.priority ∷ drop (i + 1) (map (λ (d : ObjectDef). d.priority) ds)) (sym is)
