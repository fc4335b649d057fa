-- An order excludes a cycle.
use Rattle.std.proofs.Common.{◌≡◌, ◌∙◌, ℕ, ◌<◌, Some, List, [], ◌∷◌, Contains, IsTrue, ap, arith}
use Rattle.std.specs.Prelude.{slice_get}
use Rattle.std.specs.List.{AllByRecursion}
use Rattle.std.proofs.lemmas.Option.{slice_get-get_or}
use Rattle.std.proofs.lemmas.Bool.{and_parts}
use Rattle.qp_model.specs.declared.record.Rec.{Rec}
use Rattle.qp_model.specs.Places.{RecordPlace, must_precede}
use Rattle.qp_replay.specs.Orders.{IsCycle, closes_cycle, is_record}

module _ (lanes : List (List Rec)) (order : List RecordPlace) (has : (x : RecordPlace) → IsTrue (is_record lanes x) → Contains order x)
    (pairs : (i j : ℕ) (x y : RecordPlace) → slice_get order i ≡ Some x → slice_get order j ≡ Some y → IsTrue (must_precede lanes x y) → i < j) where
  found : (x : RecordPlace) → IsTrue (is_record lanes x) → (i : ℕ) × (slice_get order i ≡ Some x)
  found x is = let h = has x is in (h.0, slice_get-get_or order h.0 x h.1 ∙ ap (λ y. Some y) h.2)

  -- a chain of records goes on in the order
  along : (first : RecordPlace) (f : ℕ) → slice_get order f ≡ Some first → (x : RecordPlace) (xs : List RecordPlace) (i : ℕ) → slice_get order i ≡ Some x → AllByRecursion (λ x. IsTrue (is_record lanes x)) xs → IsTrue (closes_cycle lanes first (x ∷ xs)) → i < f
  along first f at x [] i here stand round = pairs i f x first here at round
  along first f at x (y ∷ ys) i here stand round =
      let parts = and_parts (must_precede lanes x y) (closes_cycle lanes first (y ∷ ys)) round in
      let next = found y stand.0 in
      let one = pairs i next.0 x y here next.1 parts.0 in
      let remaining = along first f at y ys next.0 next.1 stand.1 parts.1 in
      omega (arith, one, remaining)

  pub no-cycle : (ps : List RecordPlace) → IsCycle lanes ps → ⊥
  no-cycle [] c = absurd (omega (arith, c.long))
  no-cycle (x ∷ xs) c = let here = found x c.stand.0 in let loop = along x here.0 here.1 x xs here.0 here.1 c.stand.1 c.round in omega (arith, loop)
