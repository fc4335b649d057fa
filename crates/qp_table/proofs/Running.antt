-- The steps of a running lane, from the lemmas of the rule.
use Rattle.std.proofs.Common.{◌≡◌, ℕ, ◌+◌, ◌*◌, ◌/◌, ◌%◌, ◌<◌, ◌≤◌, List, [], ◌∷◌, Bool, cond, set, get_or, refl, sym, ap, subst, arith, mod-eq_of_lt, lt-ltb}
use Rattle.qp_model.specs.declared.systems.System.{System}
use Rattle.qp_table.specs.Counting.{Each, many}
use Rattle.qp_table.specs.Rule.{block_at, mark_in, fills_of, is_spot, is_ref, Holds}
use Rattle.qp_table.specs.After.{rec_of, began, doubled, reference_dropped, WordSteps, HasRoom}
use Rattle.qp_table.specs.declared.view.Glance.{Glance}
use Rattle.qp_table.specs.declared.view.View.{View}
use Rattle.qp_table.proofs.Counting.{each-map}
use Rattle.qp_table.proofs.Views.{SawFrom}
use Rattle.qp_table.proofs.Tokens.{fresh-alone, standing, held-stands}
use Rattle.qp_table.proofs.Steps.{inc-says, dec-says, begins, doubles, drops, block-below, x-is, dec-counts}
use Rattle.qp_table.specs.Whole.{SeenBelow, Dropped}

-- an addition that does not wrap
added : (n k : ℕ) → n < 49000050 * 4294967296 → k < 9000000000 → (n + k) % 18446744073709551616 ≡ n + k
added n k l s = mod-eq_of_lt (omega arith)

seen-below : (words : List ℕ) (was : ℕ → ℕ → ℕ) (w k : ℕ) (seen : List Glance) → mark_in w (get_or words w 0) ≡ k → Each (SawFrom words was) seen → SeenBelow w k seen
seen-below words was w k seen is e = each-map (SawFrom words was) (λ (g : Glance). g.word ≡ w → mark_in w g.value ≤ k)
    (λ g s same. let q = subst (λ z. mark_in z g.value ≤ mark_in z (get_or words z 0)) same s.1 in omega arith) seen e

module _ (sys : System) (id : ℕ) (v : View) (own : HasRoom v) (o p b : ℕ) where
  pub drop-steps : (r : ℕ) → 0 < p → 0 < many (is_ref p b r) v.hands → WordSteps sys id v (block_at p b) (λ n. (n + 4294967295) % 18446744073709551616) (Dropped o p b r v)
  drop-steps r pos mine words views holds at_id small =
      let there = held-stands sys views holds.now id v at_id holds.tokens p b r pos mine in let alone = standing sys views holds.now id v at_id holds.tokens p b r there in
      let n = get_or words (block_at p b) 0 in
      let m = added n 4294967295 (block-below sys words views holds id v at_id own o p b alone.0) (omega arith) in
      let e = x-is sys words views holds id v at_id own o p b alone.0 in let e0 = e.0 in let e1 = e.1 in let e2 = e.2 in
      let c = dec-counts r (holds.now.refs p b).names there in
      let z = holds.fitting.pools p b alone.0 in let z1 = z.1 in let z2 = z.2 in
      let mk : mark_in (block_at p b) n ≡ n / 4294967296 = ap (λ (t : Bool). cond {A = ℕ} t (n / 4294967296) (n % 2097152 + n / 2097152 % 2097152 + n / 4398046511104)) (lt-ltb (block_at p b) 4224 (omega arith)) in (
        reference_dropped v (block_at p b) (n + 4294967295) (rec_of 18 o (p ∷ b ∷ (n / 4294967296) ∷ r ∷ [])) p b r,
        subst (λ (y : ℕ). Holds sys (set words (block_at p b) y) (set views id (reference_dropped v (block_at p b) (n + 4294967295) (rec_of 18 o (p ∷ b ∷ (n / 4294967296) ∷ r ∷ [])) p b r))) (sym m) (drops sys words views holds id v at_id own o p b alone.0 r (n + 4294967295) _ (dec-says o p b (n / 4294967296) r) mine refl),
        (refl, omega arith, seen-below words holds.was (block_at p b) (n / 4294967296) v.seen mk (holds.seen.each id v at_id), omega arith),
      )

-- The other additions: the first reference, another, and a block that comes back
module _ (sys : System) (id : ℕ) (v : View) (own : HasRoom v) (o p b : ℕ) where
  pub begin-steps : 0 < many (is_spot p b) v.fresh → many (fills_of p b) v.fills ≡ 0
      → WordSteps sys id v (block_at p b) (λ n. (n + 4294967297) % 18446744073709551616) (λ n u. u ≡ began v (block_at p b) (n + 4294967297) (rec_of 17 o (p ∷ b ∷ (n / 4294967296) ∷ [])) p b (n / 4294967296))
  begin-steps mine written words views holds at_id small =
      let alone = fresh-alone sys views holds.now id v at_id holds.tokens p b mine in
      let n = get_or words (block_at p b) 0 in
      let m = added n 4294967297 (block-below sys words views holds id v at_id own o p b alone.0) (omega arith) in (
        began v (block_at p b) (n + 4294967297) (rec_of 17 o (p ∷ b ∷ (n / 4294967296) ∷ [])) p b (n / 4294967296),
        subst (λ (y : ℕ). Holds sys (set words (block_at p b) y) (set views id (began v (block_at p b) (n + 4294967297) (rec_of 17 o (p ∷ b ∷ (n / 4294967296) ∷ [])) p b (n / 4294967296)))) (sym m) (begins sys words views holds id v at_id own o p b alone.0 (n + 4294967297) _ (inc-says o p b (n / 4294967296)) mine written refl),
        refl,
      )

  pub double-steps : (r : ℕ) → 0 < p → 0 < many (is_ref p b r) v.hands → WordSteps sys id v (block_at p b) (λ n. (n + 4294967297) % 18446744073709551616) (λ n u. u ≡ doubled v (block_at p b) (n + 4294967297) (rec_of 17 o (p ∷ b ∷ (n / 4294967296) ∷ [])) p b (n / 4294967296))
  double-steps r pos mine words views holds at_id small =
      let there = held-stands sys views holds.now id v at_id holds.tokens p b r pos mine in let alone = standing sys views holds.now id v at_id holds.tokens p b r there in
      let n = get_or words (block_at p b) 0 in
      let m = added n 4294967297 (block-below sys words views holds id v at_id own o p b alone.0) (omega arith) in (
        doubled v (block_at p b) (n + 4294967297) (rec_of 17 o (p ∷ b ∷ (n / 4294967296) ∷ [])) p b (n / 4294967296),
        subst (λ (y : ℕ). Holds sys (set words (block_at p b) y) (set views id (doubled v (block_at p b) (n + 4294967297) (rec_of 17 o (p ∷ b ∷ (n / 4294967296) ∷ [])) p b (n / 4294967296)))) (sym m) (doubles sys words views holds id v at_id own o p b alone.0 r (n + 4294967297) _ (inc-says o p b (n / 4294967296)) mine refl),
        refl,
      )
