-- The objects above a floor, from the last.
use Rattle.std.proofs.Common.{◌≡◌, ℕ, ◌<◌, ◌≤◌, List, [], ◌∷◌, ◌++◌, length, refl, nat_lt, true, false, rules, arith}
use Rattle.std.proofs.lemmas.List.{reverse-append, map-append}
use Rattle.std.proofs.lemmas.List.Elements.{filter-append}
use Rattle.qp_model.specs.declared.systems.ObjectDef.{ObjectDef}
use Rattle.qp_check_kernel.specs.LaneState.{above_among}

-- the last object is above the floor
pub above_among-last : (floor : ℕ) (objects rest : List ObjectDef) (d : ObjectDef) → objects ≡ rest ++ d ∷ [] → floor < d.priority
    → above_among objects floor ≡ d.priority ∷ above_among rest floor
unfolding above_among
above_among-last floor objects rest d e h =
    let t : nat_lt floor d.priority ≡ true = search rules in
    rw e (simp (filter-append, map-append, reverse-append, t))

-- it isn't
pub above_among-front : (floor : ℕ) (objects rest : List ObjectDef) (d : ObjectDef) → objects ≡ rest ++ d ∷ [] → d.priority ≤ floor
    → above_among objects floor ≡ above_among rest floor
unfolding above_among
above_among-front floor objects rest d e h =
    let t : nat_lt floor d.priority ≡ false = search rules in
    rw e (simp (filter-append, map-append, reverse-append, t))

-- no objects
pub above_among-none : (floor : ℕ) (objects : List ObjectDef) → length objects ≡ 0 → above_among objects floor ≡ []
unfolding above_among
above_among-none floor [] h = refl
above_among-none floor (x ∷ xs) h = absurd (omega arith)
