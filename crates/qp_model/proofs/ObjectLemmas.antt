-- Objects of a system, by their priority.
use Rattle.std.proofs.Common.{◌≡◌, ℕ, zero, suc, ◌==◌, Bool, true, false, List, [], ◌∷◌, slice_get, refl, ◌∙◌, ap, Some, if◌then◌else◌, ◌-◌, cond, subst, ◌≤◌, ◌<◌, arith}
use Rattle.std.specs.List.{find, AllByRecursion}
use Rattle.std.specs.Option.{is_some}
use Rattle.std.proofs.lemmas.Bool.{eq-eqb}
use Rattle.qp_model.specs.declared.systems.ObjectDef.{ObjectDef}

-- an object of the list is one of the system
pub object-there : (to : ℕ) (ds : List ObjectDef) (k : ℕ) (d : ObjectDef) → slice_get ds k ≡ Some d → d.priority ≡ to → is_some (find (λ x. x.priority == to) ds) ≡ true
object-there to [] k d at is = absurd (cc)
object-there to (x ∷ xs) zero d at is =
    let same : x ≡ d = cc in
    let here : (x.priority == to) ≡ true = eq-eqb x.priority to (ap (λ (y : ObjectDef). y.priority) same ∙ is) in
    rw here refl
object-there to (x ∷ xs) (suc k) d at is = go (x.priority == to) (object-there to xs k d at is)
  where
    go : (u : Bool) → is_some (find (λ y. y.priority == to) xs) ≡ true → is_some (if u then Some x else find (λ y. y.priority == to) xs) ≡ true
    go true h = refl
    go false h = h

-- what holds of each holds of what is found
pub found-passes : (P : ObjectDef → Type 0) (o : ℕ) (ds : List ObjectDef) (d : ObjectDef) → AllByRecursion P ds → find (λ x. x.priority == o) ds ≡ Some d → P d
found-passes P o [] d all h = absurd (cc)
found-passes P o (x ∷ xs) d all h = by (x.priority == o) (λ k. found-passes P o xs d all.1 k) h
  where
    by : (b : Bool) → (find (λ y. y.priority == o) xs ≡ Some d → P d) → cond b (Some x) (find (λ y. y.priority == o) xs) ≡ Some d → P d
    by true go h = let same : x ≡ d = cc in subst P same all.0
    by false go h = go h

-- priorities are bytes
pub priorities-are_bytes : (ds : List ObjectDef) → AllByRecursion (λ d. d.priority ≤ 32) ds → AllByRecursion (λ d. d.priority < 256) ds
priorities-are_bytes [] h = tt
priorities-are_bytes (d ∷ ds) h = let few : d.priority ≤ 32 = h.0 in (omega arith, priorities-are_bytes ds h.1)
