-- Lanes as the logs of seats in any order, and those that have none.
use Rattle.std.proofs.Common.{◌≡◌, ℕ, zero, suc, ◌+◌, ◌-◌, ◌<◌, ◌⊎◌, Bool, true, false, cond, eqb, eqb-true, eq-eqb, ne_eqb, true≢false, List, [], ◌∷◌, ◌++◌, length, map, replicate, IsPermutation, refl, sym, ap, subst, ◌∙◌, inl, inr, ⊎_elim, arith, append-nil}
use Rattle.std.proofs.lemmas.Bool.{and_parts}
use Rattle.std.proofs.lemmas.List.Folds.{list_all-append}
use Rattle.std.proofs.lemmas.List.Sorted.{IsPermutation-refl, IsPermutation-sym, IsPermutation-cons, IsPermutation-trans, IsPermutation-middle, IsPermutation-append_left}
use mathlib.Core.Option.{some, some-injective, some-ne-none}
use lib.ListN.{get_elem?}
use Rattle.qp_model.specs.declared.record.Rec.{Rec}
use Rattle.qp_model.specs.declared.words.Word.{Word}
use Rattle.qp_model.specs.Lists.{never_falls}
use Rattle.qp_model.specs.History.{all_items, lane_items, marks, marks_rise, hist}
use Rattle.qp_model.specs.Machine.{Machine}
use Rattle.qp_model.specs.WordLaw.{Keeps}
use Rattle.qp_model.proofs.WordLemmas.{all_items-append}
use Rattle.qp_model_order.proofs.Orders.{keeps-ordered, hist-ordered}
use Rattle.qp_table.specs.Counting.{Each, many, without}
use Rattle.qp_table.specs.Rule.{is_log}
use Rattle.qp_table.specs.declared.view.SeatLog.{SeatLog}
use Rattle.qp_model.proofs.BeginningLemmas.{all_items-empty}

abbrev pub recs_all : List SeatLog → List (List Rec)
recs_all logs = map (λ (g : SeatLog). g.recs) logs

-- a log's records are those of the lane of its number
abbrev pub IsLane : List (List Rec) → SeatLog → Type 0
IsLane lanes g = get_elem? lanes g.number ≡ some g.recs

-- a lane is one log's, or it is empty and no log's
abbrev pub Covers : List (List Rec) → List SeatLog → ℕ → Type 0
Covers lanes logs n = (many (is_log n) logs ≡ 1) ⊎ ((many (is_log n) logs ≡ 0) × (get_elem? lanes n ≡ some []))

abbrev lower : SeatLog → SeatLog
lower g = record { number = g.number - 1; recs = g.recs }

lower-recs : (logs : List SeatLog) → recs_all (map lower logs) ≡ recs_all logs
lower-recs [] = refl
lower-recs (g ∷ gs) = ap (λ ls. g.recs ∷ ls) (lower-recs gs)

-- where no log has number 0, all are of the lanes behind the first
none-zero : (gs : List SeatLog) → many (is_log 0) gs ≡ 0 → Each (λ (g : SeatLog). eqb g.number 0 ≡ false) gs
none-zero [] z = tt
none-zero (g ∷ gs) z = go (eqb g.number 0) refl z (none-zero gs)
  where
    go : (b : Bool) → eqb g.number 0 ≡ b → cond {A = ℕ} b 1 0 + many (is_log 0) gs ≡ 0 → (many (is_log 0) gs ≡ 0 → Each (λ (g : SeatLog). eqb g.number 0 ≡ false) gs) → (eqb g.number 0 ≡ false) × Each (λ (g : SeatLog). eqb g.number 0 ≡ false) gs
    go true e s r = absurd (omega arith)
    go false e s r = (e, r (omega arith))

lower-lane : (x : List Rec) (xs : List (List Rec)) (n : ℕ) (r : List Rec) → eqb n 0 ≡ false → get_elem? (x ∷ xs) n ≡ some r → get_elem? xs (n - 1) ≡ some r
lower-lane x xs zero r ne at = absurd (true≢false (sym (eq-eqb 0 0 refl) ∙ ne))
lower-lane x xs (suc n) r ne at = let e : suc n - 1 ≡ n = omega arith in subst (λ k. get_elem? xs k ≡ some r) (sym e) at

lower-lanes : (x : List Rec) (xs : List (List Rec)) (gs : List SeatLog) → Each (λ (g : SeatLog). eqb g.number 0 ≡ false) gs → Each (IsLane (x ∷ xs)) gs → Each (IsLane xs) (map lower gs)
lower-lanes x xs [] ne each = tt
lower-lanes x xs (g ∷ gs) ne each = (lower-lane x xs g.number g.recs ne.0 each.0, lower-lanes x xs gs ne.1 each.1)

lower-number : (n k : ℕ) → eqb n 0 ≡ false → eqb (n - 1) k ≡ eqb n (suc k)
lower-number zero k ne = absurd (true≢false (sym (eq-eqb 0 0 refl) ∙ ne))
lower-number (suc n) k ne = go (eqb n k) refl
  where
    e : suc n - 1 ≡ n
    e = omega arith

    go : (b : Bool) → eqb n k ≡ b → eqb (suc n - 1) k ≡ eqb (suc n) (suc k)
    go true is = let same = eqb-true n k is in eq-eqb (suc n - 1) k (omega arith) ∙ sym (eq-eqb (suc n) (suc k) (omega arith))
    go false is = ne_eqb (suc n - 1) k (λ q. absurd (true≢false (sym (eq-eqb n k (omega arith)) ∙ is))) ∙ sym (ne_eqb (suc n) (suc k) (λ q. absurd (true≢false (sym (eq-eqb n k (omega arith)) ∙ is))))

lower-many : (k : ℕ) (gs : List SeatLog) → Each (λ (g : SeatLog). eqb g.number 0 ≡ false) gs → many (is_log k) (map lower gs) ≡ many (is_log (suc k)) gs
lower-many k [] ne = refl
lower-many k (g ∷ gs) ne = let e = ap (λ (b : Bool). cond {A = ℕ} b 1 0) (lower-number g.number k ne.0) in let r = lower-many k gs ne.1 in omega arith

-- the first lane's log is taken out
taken-out : (x : List Rec) (xs : List (List Rec)) (gs : List SeatLog) → Each (IsLane (x ∷ xs)) gs → 0 < many (is_log 0) gs → IsPermutation (x ∷ recs_all (without (is_log 0) gs)) (recs_all gs)
taken-out x xs [] each some_log = absurd (omega arith)
taken-out x xs (g ∷ gs) each some_log = go (eqb g.number 0) refl some_log (taken-out x xs gs each.1)
  where
    here : g.number ≡ 0 → x ≡ g.recs
    here e = some-injective x g.recs (subst (λ n. get_elem? (x ∷ xs) n ≡ some g.recs) e each.0)

    go : (b : Bool) → eqb g.number 0 ≡ b → 0 < cond {A = ℕ} b 1 0 + many (is_log 0) gs → (0 < many (is_log 0) gs → IsPermutation (x ∷ recs_all (without (is_log 0) gs)) (recs_all gs)) → IsPermutation (x ∷ recs_all (cond b gs (g ∷ without (is_log 0) gs))) (g.recs ∷ recs_all gs)
    go true is s r = subst (λ z. IsPermutation (x ∷ recs_all gs) (z ∷ recs_all gs)) (here (eqb-true g.number 0 is)) (IsPermutation-refl (x ∷ recs_all gs))
    go false is s r = IsPermutation-trans (x ∷ g.recs ∷ recs_all (without (is_log 0) gs)) (g.recs ∷ x ∷ recs_all (without (is_log 0) gs)) (g.recs ∷ recs_all gs)
        (IsPermutation-middle (x ∷ []) g.recs (recs_all (without (is_log 0) gs)))
        (IsPermutation-cons g.recs (x ∷ recs_all (without (is_log 0) gs)) (recs_all gs) (r (omega arith)))

without-each : (P : SeatLog → Type 0) (p : SeatLog → Bool) (gs : List SeatLog) → Each P gs → Each P (without p gs)
without-each P p [] each = tt
without-each P p (g ∷ gs) each = go (p g) (without-each P p gs each.1)
  where
    go : (b : Bool) → Each P (without p gs) → Each P (cond b gs (g ∷ without p gs))
    go true r = each.1
    go false r = (each.0, r)

-- taking one out of number 0 leaves as many of others, and one less of 0
without-many : (k : ℕ) (gs : List SeatLog) → 0 < many (is_log 0) gs → many (is_log k) (without (is_log 0) gs) + cond (eqb 0 k) 1 0 ≡ many (is_log k) gs
without-many k [] s = absurd (omega arith)
without-many k (g ∷ gs) s = go (eqb g.number 0) refl s (without-many k gs)
  where
    go : (b : Bool) → eqb g.number 0 ≡ b → 0 < cond {A = ℕ} b 1 0 + many (is_log 0) gs → (0 < many (is_log 0) gs → many (is_log k) (without (is_log 0) gs) + cond (eqb 0 k) 1 0 ≡ many (is_log k) gs) → many (is_log k) (cond b gs (g ∷ without (is_log 0) gs)) + cond (eqb 0 k) 1 0 ≡ cond (eqb g.number k) 1 0 + many (is_log k) gs
    go true is s r = let e : cond {A = ℕ} (eqb g.number k) 1 0 ≡ cond (eqb 0 k) 1 0 = ap (λ z. cond {A = ℕ} (eqb z k) 1 0) (eqb-true g.number 0 is) in omega arith
    go false is s r = let h = r (omega arith) in omega arith

-- the logs' records and some empty lanes are all lanes
abbrev pub IsPermuted : List (List Rec) → Type 0
IsPermuted lanes = (logs : List SeatLog) → Each (IsLane lanes) logs → ((n : ℕ) → n < length lanes → Covers lanes logs n) → (k : ℕ) × IsPermutation lanes (recs_all logs ++ replicate k [])

pub permuted : (lanes : List (List Rec)) → IsPermuted lanes
permuted [] [] each cover = (0, IsPermutation-refl [])
permuted [] (g ∷ gs) each cover = absurd (some-ne-none g.recs (sym each.0))
permuted (x ∷ xs) logs each cover = ⊎_elim (first (λ gs e c. permuted xs gs e c)) (second (λ gs e c. permuted xs gs e c)) (cover 0 (omega arith))
  where
    step : IsPermuted xs → (gs : List SeatLog) → many (is_log 0) gs ≡ 0 → Each (IsLane (x ∷ xs)) gs → ((n : ℕ) → n < length xs → Covers (x ∷ xs) gs (suc n)) → (k : ℕ) × IsPermutation xs (recs_all gs ++ replicate k [])
    step rec gs none each covers =
        let ne = none-zero gs none in
        let r = rec (map lower gs) (lower-lanes x xs gs ne each)
        (λ n lt. ⊎_elim (λ (one : many (is_log (suc n)) gs ≡ 1). inl (lower-many n gs ne ∙ one)) (λ (e : (many (is_log (suc n)) gs ≡ 0) × (get_elem? (x ∷ xs) (suc n) ≡ some [])). inr (lower-many n gs ne ∙ e.0, e.1)) (covers n lt)) in
        (r.0, subst (λ ls. IsPermutation xs (ls ++ replicate r.0 [])) (lower-recs gs) r.1)

    first : IsPermuted xs → many (is_log 0) logs ≡ 1 → (k : ℕ) × IsPermutation (x ∷ xs) (recs_all logs ++ replicate k [])
    first rec one =
        let some_log : 0 < many (is_log 0) logs = omega arith in
        let rest = without (is_log 0) logs in
        let none : many (is_log 0) rest ≡ 0 = (let m = without-many 0 logs some_log in omega arith) in
        let r = step rec rest none (without-each (IsLane (x ∷ xs)) (is_log 0) logs each)
        (λ n lt. let m = without-many (suc n) logs some_log in let z : cond {A = ℕ} (eqb 0 (suc n)) 1 0 ≡ 0 = ap (λ (b : Bool). cond {A = ℕ} b 1 0) (ne_eqb 0 (suc n) (λ e. absurd (omega arith))) in
        ⊎_elim (λ (one : many (is_log (suc n)) logs ≡ 1). inl (omega arith)) (λ (e : (many (is_log (suc n)) logs ≡ 0) × (get_elem? (x ∷ xs) (suc n) ≡ some [])). let q = e.0 in inr (omega arith, e.1)) (cover (suc n) (omega arith))) in (
          r.0,
          IsPermutation-trans (x ∷ xs) (x ∷ (recs_all rest ++ replicate r.0 [])) (recs_all logs ++ replicate r.0 []) (IsPermutation-cons x xs (recs_all rest ++ replicate r.0 []) r.1)
              (IsPermutation-append_left (replicate r.0 []) (x ∷ recs_all rest) (recs_all logs) (taken-out x xs logs each some_log)),
        )

    second : IsPermuted xs → (many (is_log 0) logs ≡ 0) × (get_elem? (x ∷ xs) 0 ≡ some []) → (k : ℕ) × IsPermutation (x ∷ xs) (recs_all logs ++ replicate k [])
    second rec none =
        let r = step rec logs none.0 each (λ n lt. cover (suc n) (omega arith)) in
        let empty : x ≡ [] = some-injective x [] none.1 in (
          suc r.0,
          IsPermutation-trans (x ∷ xs) (x ∷ (recs_all logs ++ replicate r.0 [])) (recs_all logs ++ [] ∷ replicate r.0 []) (IsPermutation-cons x xs (recs_all logs ++ replicate r.0 []) r.1)
              (subst (λ z. IsPermutation (z ∷ (recs_all logs ++ replicate r.0 [])) (recs_all logs ++ [] ∷ replicate r.0 [])) (sym empty)
              (IsPermutation-sym (recs_all logs ++ [] ∷ replicate r.0 []) ([] ∷ (recs_all logs ++ replicate r.0 [])) (IsPermutation-middle (recs_all logs) [] (replicate r.0 [])))),
        )

same-items : (xs : List (List Rec)) (k : ℕ) → all_items (xs ++ replicate k []) ≡ all_items xs
same-items xs k = all_items-append xs (replicate k []) ∙ (ap (λ z. all_items xs ++ z) (all_items-empty k) ∙ append-nil (all_items xs))

same-rises : (xs : List (List Rec)) (k : ℕ) (w : Word) → marks_rise w (xs ++ replicate k []) ≡ true → marks_rise w xs ≡ true
unfolding marks_rise lane_items
same-rises xs k w h = (and_parts _ _ (sym (list_all-append (λ l. never_falls (marks w (lane_items l))) xs (replicate k [])) ∙ h)).0

module _ (lanes xs : List (List Rec)) (k : ℕ) (order : IsPermutation lanes (xs ++ replicate k [])) (w : Word) {S : Type 0} (m : Machine S) (law : Keeps S m w lanes) where
  pub same-law : Keeps S m w xs
  same-law = let a = keeps-ordered lanes (xs ++ replicate k []) order w m law in let e = same-items xs k in record { numbers = rw e at a.numbers; allowed = rw e at a.allowed; shown = rw e at a.shown; marks = same-rises xs k w a.marks }

  pub same-hist : hist w (all_items xs) ≡ hist w (all_items lanes)
  same-hist = ap (hist w) (sym (same-items xs k)) ∙ hist-ordered lanes (xs ++ replicate k []) order w law.numbers
