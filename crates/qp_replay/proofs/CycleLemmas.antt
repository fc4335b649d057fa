-- A walk from record to record, each of which must stand before the one that was met before it.
use Rattle.std.proofs.Common.{◌≡◌, ◌≢◌, ◌∙◌, ℕ, zero, suc, ◌<◌, nat_lt, Bool, true, false, ◌&&◌, List, [], ◌∷◌, ◌++◌, length, get_or, set, take, Contains, IsTrue, ⊎_elim, refl, sym, ap, subst, arith, get_or-set_other, length-append, length-set}
use Rattle.std.specs.List.{AllByRecursion}
use Rattle.std.proofs.Math.Seq.{take-suc}
use Rattle.std.proofs.lemmas.Bool.{cases_eq, and_from, and_parts}
use Rattle.std.proofs.lemmas.Bool.Decides.{nat_tests}
use Rattle.std.proofs.lemmas.List.Elements.{Contains-append_right}
use Rattle.qp_model.specs.declared.record.Rec.{Rec}
use Rattle.qp_model.specs.Places.{RecordPlace, must_precede}
use Rattle.qp_replay.specs.Orders.{IsCycle, closes_cycle, is_record}
use Rattle.qp_replay.specs.Remaining.{Blocks, HasNext, LaneFronts, front, head}
use Rattle.qp_replay.proofs.RemainingLemmas.{lane-of, record-test}
use Rattle.qp_replay.proofs.OrderLemmas.{irreflexive, lane-first, same-place}

-- each of these must stand before the next
abbrev pub chained : List (List Rec) → List RecordPlace → Bool
chained lanes [] = true
chained lanes (x ∷ []) = true
chained lanes (x ∷ y ∷ ys) = must_precede lanes x y && chained lanes (y ∷ ys)

-- how many lanes weren't met
unfoldable pub unmet : List Bool → ℕ
unmet [] = 0
unmet (true ∷ bs) = unmet bs
unmet (false ∷ bs) = suc (unmet bs)

-- The walk, its last place first, and the lane that it comes to.
pub record Walked (st : LaneFronts) (met : List Bool) (walk : List RecordPlace) (lane : ℕ) : Type 0 where
  pub each : length met ≡ length st.lanes
  pub next : HasNext st lane
  pub seen : (k : ℕ) → get_or met k false ≡ true → Contains walk (head st k)
  pub chain : IsTrue (chained st.lanes (head st lane ∷ walk))
  pub stand : AllByRecursion (λ x. IsTrue (is_record st.lanes x)) walk

pub unmet-less : (met : List Bool) (lane : ℕ) → lane < length met → get_or met lane false ≡ false → unmet (set met lane true) < unmet met
unfolding unmet
unmet-less [] lane within is = absurd (omega (arith, within))
unmet-less (true ∷ bs) zero within is = absurd (cc is)
unmet-less (false ∷ bs) zero within is = omega arith
unmet-less (true ∷ bs) (suc k) within is = unmet-less bs k (omega (arith, within)) is
unmet-less (false ∷ bs) (suc k) within is = let remaining = unmet-less bs k (omega (arith, within)) is in omega (arith, remaining)

module _ (st : LaneFronts) (met : List Bool) (walk : List RecordPlace) (lane : ℕ) (walked : Walked st met walk lane) where
  pub met-lane : lane < length met
  met-lane = omega (arith, (lane-of st.lanes lane (front st lane) walked.next).0, walked.each)

  module _ (b : RecordPlace) (blocks : Blocks st lane b) where
    pub next-there : HasNext st b.lane
    next-there =
        let at = (lane-of st.lanes b.lane b.at blocks.waits.stands).1 in
        let behind = blocks.waits.behind in
        let small : nat_lt (front st b.lane) (length (get_or st.lanes b.lane [])) ≡ true = grind (arith, nat_tests, at, behind) in
        record-test st.lanes b.lane (front st b.lane) ∙ small

    seen-more : (more : List RecordPlace) → ((x : RecordPlace) → Contains (head st lane ∷ walk) x → Contains more x) → (k : ℕ) → get_or (set met lane true) k false ≡ true → Contains more (head st k)
    seen-more more keeps k is = ⊎_elim here there (cases_eq k lane)
      where
        here : k ≡ lane → Contains more (head st k)
        here e = keeps (head st k) (0, omega arith, ap (head st) (sym e))

        there : k ≢ lane → Contains more (head st k)
        there ne =
            let same : get_or (set met lane true) k false ≡ get_or met k false = rw get_or-set_other in
            keeps (head st k) (Contains-append_right (head st lane ∷ []) walk (head st k) (walked.seen k (sym same ∙ is)))

    pub walk-on : head st b.lane ≡ b → Walked st (set met lane true) (head st lane ∷ walk) b.lane
    walk-on same = record {
      each = length-set met lane true ∙ walked.each;
      next = next-there;
      seen = seen-more (head st lane ∷ walk) (λ x h. h);
      chain = and_from _ _ (subst (λ z. must_precede st.lanes z (head st lane) ≡ true) (sym same) blocks.first) walked.chain;
      stand = (walked.next, walked.stand);
    }

    pub walk-over : (head st b.lane ≡ b → ⊥) → Walked st (set met lane true) (b ∷ head st lane ∷ walk) b.lane
    walk-over apart =
        let behind = blocks.waits.behind in
        let ne : front st b.lane ≡ b.at → ⊥ = λ e. apart (same-place (head st b.lane) b refl e) in
        record {
          each = length-set met lane true ∙ walked.each;
          next = next-there;
          seen = seen-more (b ∷ head st lane ∷ walk) (λ x h. Contains-append_right (b ∷ []) (head st lane ∷ walk) x h);
          chain = and_from _ _ (lane-first st.lanes (head st b.lane) b refl (omega (arith, behind, ne))) (and_from _ _ blocks.first walked.chain);
          stand = (blocks.waits.stands, (walked.next, walked.stand));
        }

-- a front of a chain
chain-front : (lanes : List (List Rec)) (x : RecordPlace) (xs : List RecordPlace) (n : ℕ) → IsTrue (chained lanes (x ∷ xs)) → IsTrue (chained lanes (x ∷ take n xs))
chain-front lanes x xs zero h = refl
chain-front lanes x [] (suc n) h = refl
chain-front lanes x (y ∷ ys) (suc n) h = let parts = and_parts (must_precede lanes x y) (chained lanes (y ∷ ys)) h in and_from _ _ parts.0 (chain-front lanes y ys n parts.1)

-- a chain that ends with h closes where h must stand before this one
closes-from : (lanes : List (List Rec)) (c h : RecordPlace) (xs : List RecordPlace) → IsTrue (chained lanes (xs ++ h ∷ [])) → IsTrue (must_precede lanes h c) → IsTrue (closes_cycle lanes c (xs ++ h ∷ []))
closes-from lanes c h [] chain last = last
closes-from lanes c h (x ∷ []) chain last = let parts = and_parts (must_precede lanes x h) true chain in and_from _ _ parts.0 last
closes-from lanes c h (x ∷ y ∷ ys) chain last = let parts = and_parts (must_precede lanes x y) (chained lanes (y ∷ (ys ++ h ∷ []))) chain in and_from _ _ parts.0 (closes-from lanes c h (y ∷ ys) parts.1 last)

stand-front : (P : RecordPlace → Type 0) (xs : List RecordPlace) (n : ℕ) → AllByRecursion P xs → AllByRecursion P (take n xs)
stand-front P xs zero all = tt
stand-front P [] (suc n) all = tt
stand-front P (x ∷ xs) (suc n) all = (all.0, stand-front P xs n all.1)

-- where the walk comes to a lane for the second time, it has gone round
pub is-cycle : (lanes : List (List Rec)) (h : RecordPlace) (walk : List RecordPlace) (i : ℕ) → IsTrue (chained lanes (h ∷ walk)) → AllByRecursion (λ x. IsTrue (is_record lanes x)) walk → i < length walk → get_or walk i h ≡ h
    → IsCycle lanes (take (suc i) walk)
is-cycle lanes h [] i chain stand within is = absurd (omega (arith, within))
is-cycle lanes h (x ∷ xs) zero chain stand within is =
    let loop : must_precede lanes h h ≡ true = subst (λ z. must_precede lanes h z ≡ true) is (and_parts (must_precede lanes h x) (chained lanes (x ∷ xs)) chain).0 in
    let no = irreflexive lanes h in absurd (cc (sym no ∙ loop))
is-cycle lanes h (x ∷ xs) (suc i) chain stand within is =
    let small : i < length xs = omega (arith, within) in
    let end : take (suc i) xs ≡ take i xs ++ h ∷ [] = take-suc xs i h small ∙ ap (λ z. take i xs ++ z ∷ []) is in
    let parts = and_parts (must_precede lanes h x) (chained lanes (x ∷ xs)) chain in
    let front : IsTrue (chained lanes ((x ∷ take i xs) ++ h ∷ [])) = subst (λ z. IsTrue (chained lanes (x ∷ z))) end (chain-front lanes x xs (suc i) parts.1) in
    record {
      long = let size = ap length end in omega (arith, size, length-append (take i xs) (h ∷ []));
      stand = stand-front (λ x. IsTrue (is_record lanes x)) (x ∷ xs) (suc (suc i)) stand;
      round = subst (λ z. IsTrue (closes_cycle lanes x (x ∷ z))) (sym end) (closes-from lanes x h (x ∷ take i xs) front parts.0);
    }
