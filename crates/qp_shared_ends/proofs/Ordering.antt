-- The lanes of the rule are the logs of the view that has all, in some order, and lanes without records.
use Rattle.std.proofs.Common.{◌≡◌, ◌≢◌, ℕ, zero, suc, ◌+◌, ◌<◌, ◌≤◌, Bool, true, false, cond, List, [], ◌∷◌, ◌++◌, length, replicate, refl, sym, ◌∙◌, ap, subst, arith, eqb, eqb-true, eq-eqb, IsPermutation}
use Rattle.std.proofs.lemmas.List.{map-append, append-nil}
use Rattle.std.proofs.lemmas.List.Sorted.{IsPermutation-refl, IsPermutation-trans, IsPermutation-cons, IsPermutation-middle}
use mathlib.Core.Option.{some, some-injective, some-ne-none}
use mathlib.Core.Logic.{dite}
use native.Mathlib.Decide.{ℕ_discrete}
use lib.ListN.{get_elem?}
use Rattle.qp_model.specs.declared.record.Rec.{Rec}
use Rattle.qp_model.specs.History.{lane_items, all_items}
use Rattle.qp_model.proofs.WordLemmas.{all_items-append}
use Rattle.qp_table.specs.Counting.{Each, many}
use Rattle.qp_table.specs.Rule.{is_log, is_number}
use Rattle.qp_table.specs.declared.view.SeatLog.{SeatLog}
use Rattle.qp_table.proofs.Counting.{total-append}
use Rattle.qp_shared_ends.specs.Lanes.{lanes_recs}

-- one that passes, and those before and behind it
pick : {A : Type 0} (p : A → Bool) (xs : List A) → 0 < many p xs → (before : List A) × (x : A) × (behind : List A) × (xs ≡ before ++ x ∷ behind) × (p x ≡ true)
pick p [] h = absurd (omega arith)
pick {A} p (x ∷ xs) h = go (p x) refl h (pick p xs)
  where
    go : (t : Bool) → p x ≡ t → 0 < cond t 1 0 + many p xs → (0 < many p xs → (before : List A) × (y : A) × (behind : List A) × (xs ≡ before ++ y ∷ behind) × (p y ≡ true))
        → (before : List A) × (y : A) × (behind : List A) × (x ∷ xs ≡ before ++ y ∷ behind) × (p y ≡ true)
    go true e h r = ([], x, xs, refl, e)
    go false e h r = let z = r (omega arith) in (x ∷ z.0, z.1, z.2, ap (λ ys. x ∷ ys) z.3, z.4)

module _ {A : Type 0} where
  each-front : (P : A → Type 0) (xs ys : List A) → Each P (xs ++ ys) → Each P xs
  each-front P [] ys e = tt
  each-front P (x ∷ xs) ys e = (e.0, each-front P xs ys e.1)

  each-back : (P : A → Type 0) (xs ys : List A) → Each P (xs ++ ys) → Each P ys
  each-back P [] ys e = e
  each-back P (x ∷ xs) ys e = each-back P xs ys e.1

  each-both : (P : A → Type 0) (xs ys : List A) → Each P xs → Each P ys → Each P (xs ++ ys)
  each-both P [] ys a b = b
  each-both P (x ∷ xs) ys a b = (a.0, each-both P xs ys a.1 b)

  many-middle : (p : A → Bool) (xs : List A) (x : A) (ys : List A) → many p (xs ++ x ∷ ys) ≡ many p (xs ++ ys) + cond (p x) 1 0
  many-middle p xs x ys = let a = total-append (λ y. cond (p y) 1 0) xs (x ∷ ys) in let b = total-append (λ y. cond (p y) 1 0) xs ys in omega arith

-- the log is one of these lanes, the first of which has the number `base`
abbrev IsLane : List (List Rec) → ℕ → SeatLog → Type 0
IsLane lanes base g = (n : ℕ) × (g.number ≡ base + n) × (get_elem? lanes n ≡ some g.recs)

-- the same without the first lane
module _ (x : List Rec) (lanes : List (List Rec)) (base : ℕ) where
  later-lane : (g : SeatLog) → g.number ≢ base → IsLane (x ∷ lanes) base g → IsLane lanes (base + 1) g
  later-lane g ne (zero, number, is) = absurd (ne (omega arith))
  later-lane g ne (suc n, number, is) = (n, omega arith, is)

  later-lanes : (gs : List SeatLog) → many (is_log base) gs ≡ 0 → Each (IsLane (x ∷ lanes) base) gs → Each (IsLane lanes (base + 1)) gs
  later-lanes [] none e = tt
  later-lanes (g ∷ gs) none e = (
    later-lane g (λ is. let one = ap (λ (t : Bool). cond {A = ℕ} t 1 0) (eq-eqb g.number base is) in absurd (omega arith)) e.0,
    later-lanes gs (let z = none in omega arith) e.1,
  )

  first-lane : (g : SeatLog) → g.number ≡ base → IsLane (x ∷ lanes) base g → x ≡ g.recs
  first-lane g is (zero, number, there) = some-injective x g.recs there
  first-lane g is (suc n, number, there) = absurd (omega arith)

-- what the numbers say of lanes
record Numbered (lanes : List (List Rec)) (base : ℕ) (gs : List SeatLog) : Type 0 where
  own : Each (IsLane lanes base) gs
  once : (n : ℕ) → n < length lanes → many (is_log (base + n)) gs ≤ 1
  rest : (n : ℕ) → n < length lanes → many (is_log (base + n)) gs ≡ 0 → get_elem? lanes n ≡ some []

shift : (base n : ℕ) → base + suc n ≡ base + 1 + n
shift base n = omega arith

recs-middle : (xs : List SeatLog) (g : SeatLog) (ys : List SeatLog) → lanes_recs (xs ++ g ∷ ys) ≡ lanes_recs xs ++ g.recs ∷ lanes_recs ys
recs-middle xs g ys = map-append (λ (g : SeatLog). g.recs) xs (g ∷ ys)

recs-both : (xs ys : List SeatLog) → lanes_recs (xs ++ ys) ≡ lanes_recs xs ++ lanes_recs ys
recs-both xs ys = map-append (λ (g : SeatLog). g.recs) xs ys

none-there : (base : ℕ) (gs : List SeatLog) → Each (IsLane [] base) gs → gs ≡ []
none-there base [] e = refl
none-there base (g ∷ gs) e = absurd (some-ne-none g.recs (sym e.0.2))

-- a list with one more in its middle has it in front
to-middle : (xs ys zs : List (List Rec)) (x : List Rec) (lanes : List (List Rec)) → IsPermutation ((xs ++ ys) ++ zs) lanes → IsPermutation ((xs ++ x ∷ ys) ++ zs) (x ∷ lanes)
to-middle xs ys zs x lanes p = subst (λ l. IsPermutation l (x ∷ lanes)) (sym (assoc xs (x ∷ ys)))
    (IsPermutation-trans (xs ++ x ∷ (ys ++ zs)) (x ∷ (xs ++ (ys ++ zs))) (x ∷ lanes) (IsPermutation-middle xs x (ys ++ zs)) (IsPermutation-cons x (xs ++ (ys ++ zs)) lanes (subst (λ l. IsPermutation l lanes) (assoc xs ys) p)))
  where
    assoc : (ls bs : List (List Rec)) → (ls ++ bs) ++ zs ≡ ls ++ (bs ++ zs)
    assoc [] bs = refl
    assoc (a ∷ ls) bs = ap (λ l. a ∷ l) (assoc ls bs)

ordered : (lanes : List (List Rec)) (base : ℕ) (gs : List SeatLog) → Numbered lanes base gs → (k : ℕ) × IsPermutation (lanes_recs gs ++ replicate k []) lanes
ordered [] base gs h = (0, rw (none-there base gs h.own) (IsPermutation-refl []))
ordered (x ∷ lanes) base gs h = dite (ℕ_discrete (many (is_log base) gs) 0)
    (λ none.
    let here : many (is_log (base + 0)) gs ≡ 0 = (let e : base + 0 ≡ base = omega arith in ap (λ z. many (is_log z) gs) e ∙ none) in
    let empty : x ≡ [] = some-injective x [] (h.rest 0 (omega arith) here) in
    let r = ordered lanes (base + 1) gs (record {
      own = later-lanes x lanes base gs none h.own;
      once = λ n l. subst (λ z. many (is_log z) gs ≤ 1) (shift base n) (h.once (suc n) (omega arith));
      rest = λ n l z. h.rest (suc n) (omega arith) (ap (λ y. many (is_log y) gs) (shift base n) ∙ z);
    }) in (
      suc r.0,
      subst (λ y. IsPermutation (lanes_recs gs ++ [] ∷ replicate r.0 []) (y ∷ lanes)) (sym empty)
          (IsPermutation-trans (lanes_recs gs ++ [] ∷ replicate r.0 []) ([] ∷ (lanes_recs gs ++ replicate r.0 [])) ([] ∷ lanes) (IsPermutation-middle (lanes_recs gs) [] (replicate r.0 [])) (IsPermutation-cons [] (lanes_recs gs ++ replicate r.0 []) lanes r.1)),
    ))
    (λ some_there. taken (λ others number. ordered lanes (base + 1) others number) (pick (is_log base) gs (omega arith)))
  where
    taken : ((others : List SeatLog) → Numbered lanes (base + 1) others → (k : ℕ) × IsPermutation (lanes_recs others ++ replicate k []) lanes) → (before : List SeatLog) × (g : SeatLog) × (behind : List SeatLog) × (gs ≡ before ++ g ∷ behind) × (is_log base g ≡ true) → (k : ℕ) × IsPermutation (lanes_recs gs ++ replicate k []) (x ∷ lanes)
    taken later (before, g, behind, is, number) =
        let at : g.number ≡ base = eqb-true g.number base number in
        let all = subst (Numbered (x ∷ lanes) base) is h in
        let fewer : (n : ℕ) → many (is_log n) (before ++ g ∷ behind) ≡ many (is_log n) (before ++ behind) + cond (is_log n g) 1 0 = (λ n. many-middle (is_log n) before g behind) in
        let here : many (is_log base) (before ++ behind) ≡ 0 = (let f = fewer base in let b = ap (λ (t : Bool). cond {A = ℕ} t 1 0) number in let o = all.once 0 (omega arith) in let e : base + 0 ≡ base = omega arith in let z = ap (λ y. many (is_log y) (before ++ g ∷ behind)) e in omega arith) in
        let others : (n : ℕ) → many (is_log (base + 1 + n)) (before ++ g ∷ behind) ≡ many (is_log (base + 1 + n)) (before ++ behind) =
        (λ n. let f = fewer (base + 1 + n) in let b = other (base + 1 + n) (λ e. absurd (omega arith)) in omega arith) in
        let own : Each (IsLane (x ∷ lanes) base) (before ++ behind) = each-both (IsLane (x ∷ lanes) base) before behind (each-front (IsLane (x ∷ lanes) base) before (g ∷ behind) all.own) (each-back (IsLane (x ∷ lanes) base) before (g ∷ behind) all.own).1 in
        let r = later (before ++ behind) (record {
          own = later-lanes x lanes base (before ++ behind) here own;
          once = λ n l. let a = subst (λ z. many (is_log z) (before ++ g ∷ behind) ≤ 1) (shift base n) (all.once (suc n) (omega arith)) in let b = others n in omega arith;
          rest = λ n l z. all.rest (suc n) (omega arith) (ap (λ y. many (is_log y) (before ++ g ∷ behind)) (shift base n) ∙ (others n ∙ z));
        }) in
        let first : x ≡ g.recs = first-lane x lanes base g at (each-back (IsLane (x ∷ lanes) base) before (g ∷ behind) all.own).0 in (
          r.0,
          subst (λ (y : List SeatLog). IsPermutation (lanes_recs y ++ replicate r.0 []) (x ∷ lanes)) (sym is)
              (subst (λ l. IsPermutation (l ++ replicate r.0 []) (x ∷ lanes)) (sym (recs-middle before g behind))
              (subst (λ y. IsPermutation ((lanes_recs before ++ g.recs ∷ lanes_recs behind) ++ replicate r.0 []) (y ∷ lanes)) (sym first)
              (to-middle (lanes_recs before) (lanes_recs behind) (replicate r.0 []) g.recs lanes (subst (λ l. IsPermutation (l ++ replicate r.0 []) lanes) (recs-both before behind) r.1)))),
        )
      where
        other : (n : ℕ) → (n ≡ base → ⊥) → cond {A = ℕ} (is_log n g) 1 0 ≡ 0
        other n ne = go (eqb g.number n) refl
          where
            go : (t : Bool) → eqb g.number n ≡ t → cond {A = ℕ} t 1 0 ≡ 0
            go true e = let z = eqb-true g.number n e in let y = eqb-true g.number base number in absurd (ne (sym z ∙ y))
            go false e = refl

-- lanes without records have none
pub empties : (xs : List (List Rec)) (k : ℕ) → all_items (xs ++ replicate k []) ≡ all_items xs
unfolding all_items lane_items
empties xs k = all_items-append xs (replicate k []) ∙ (ap (λ l. all_items xs ++ l) (none k) ∙ append-nil (all_items xs))
  where
    none : (k : ℕ) → all_items (replicate k []) ≡ []
    none zero = refl
    none (suc k) = none k

-- The lanes of the rule, by numbers from 0
pub lanes-ordered : (lanes : List (List Rec)) (gs : List SeatLog) (numbers : List ℕ) → Each (λ (g : SeatLog). get_elem? lanes g.number ≡ some g.recs) gs
    → ((n : ℕ) → n < length lanes → many (is_log n) gs + many (is_number n) numbers ≡ 1) → ((n : ℕ) → n < length lanes → 0 < many (is_number n) numbers → get_elem? lanes n ≡ some [])
    → (k : ℕ) × IsPermutation (lanes_recs gs ++ replicate k []) lanes
lanes-ordered lanes gs numbers own once rest = ordered lanes 0 gs (record {
  own = owns gs own;
  once = λ n l. let e : 0 + n ≡ n = omega arith in subst (λ z. many (is_log z) gs ≤ 1) (sym e) (let o = once n l in omega arith);
  rest = λ n l z. rest n l (let e : 0 + n ≡ n = omega arith in let y = subst (λ x. many (is_log x) gs ≡ 0) e z in let o = once n l in omega arith);
})
  where
    owns : (gs : List SeatLog) → Each (λ (g : SeatLog). get_elem? lanes g.number ≡ some g.recs) gs → Each (IsLane lanes 0) gs
    owns [] e = tt
    owns (g ∷ gs) e = ((g.number, omega arith, e.0), owns gs e.1)
