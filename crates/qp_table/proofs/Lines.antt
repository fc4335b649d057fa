-- The entries in line, in their cells.
use Rattle.std.proofs.Common.{◌≡◌, ℕ, suc, ◌+◌, ◌-◌, ◌%◌, ◌<◌, ◌≤◌, ◌≢◌, List, [], ◌∷◌, ◌++◌, Bool, true, false, cond, ◌&&◌, length, refl, sym, ap, subst, ◌∙◌, arith, eqb, eq-eqb, ne_eqb, eqb-true}
use mathlib.Core.Logic.{dite}
use native.Mathlib.Decide.{ℕ_discrete}
use Rattle.atomic_table.proofs.Lists.{one_turn}
use Rattle.std.proofs.lemmas.Bool.{and_parts, false_from_ne_true}
use Rattle.qp_model.specs.declared.bodies.Entry.{Entry}
use Rattle.qp_table.specs.Counting.{Each, many}
use Rattle.qp_table.specs.Rule.{InLine, code, cell_value, Run, OnlyFirst, entries_of, is_item, is_entry}

-- the first entry in line that passes the test comes to another stage
abbrev pub restaged : ℕ → (InLine → Bool) → List InLine → List InLine
restaged stage p [] = []
restaged stage p (i ∷ is) = cond (p i) (record i { stage = stage } ∷ is) (i ∷ restaged stage p is)

pub cond-zero : (b : Bool) → cond {A = ℕ} b 0 0 ≡ 0
cond-zero true = refl
cond-zero false = refl

pub entry-is : (d e : Entry) → is_entry d e ≡ true → e ≡ d
entry-is d e h = let t = and_parts (eqb e.pool d.pool && eqb e.block d.block) (eqb e.name d.name) h in let s = and_parts (eqb e.pool d.pool) (eqb e.block d.block) t.0 in
    λ i. record { pool = eqb-true e.pool d.pool s.0 i; block = eqb-true e.block d.block s.1 i; name = eqb-true e.name d.name t.1 i }

pub item-is : (s j : ℕ) (en : Entry) (i : InLine) → is_item s j en i ≡ true → (i.stage ≡ s) × (i.cell ≡ j) × (i.entry ≡ en)
item-is s j en i e = let t = and_parts (eqb i.stage s && eqb i.cell j) (is_entry en i.entry) e in let a = and_parts (eqb i.stage s) (eqb i.cell j) t.0 in
    (eqb-true i.stage s a.0, eqb-true i.cell j a.1, entry-is en i.entry t.1)

pub entries-append : (xs ys : List InLine) → entries_of (xs ++ ys) ≡ entries_of xs ++ entries_of ys
entries-append [] ys = refl
entries-append (x ∷ xs) ys = ap (λ (es : List Entry). x.entry ∷ es) (entries-append xs ys)

pub entries-length : (xs : List InLine) → length (entries_of xs) ≡ length xs
entries-length [] = refl
entries-length (x ∷ xs) = ap suc (entries-length xs)

abbrev pub Absent : ℕ → List InLine → Type 0
Absent j xs = Each (λ (i : InLine). i.cell ≢ j) xs

abbrev pub Distinct : List InLine → Type 0
Distinct [] = Unit {0}
Distinct (i ∷ is) = Absent i.cell is × Distinct is

-- cells less than n apart are not one cell
pub run-absent : (n b t : ℕ) (xs : List InLine) → Run n b xs → length xs ≤ t → t < n → Absent ((b + t) % n) xs
run-absent n b t [] r le lt = tt
run-absent n b t (i ∷ is) r le lt = (
  (λ e. let z = one_turn b (b + t) n (omega arith) (omega arith) (sym r.0 ∙ e) in absurd (omega arith)),
  subst (λ (z : ℕ). Absent (z % n) is) (let w : (b + 1) + (t - 1) ≡ b + t = omega arith in w) (run-absent n (b + 1) (t - 1) is r.1 (omega arith) (omega arith)),
)

-- the cell before them all is none of theirs
pub run-before : (n b t : ℕ) (xs : List InLine) → Run n (b + t) xs → 0 < t → t + length xs ≤ n → Absent (b % n) xs
run-before n b t [] r pos le = tt
run-before n b t (i ∷ is) r pos le = (
  (λ e. let z = one_turn b (b + t) n (omega arith) (omega arith) (sym e ∙ r.0) in absurd (omega arith)),
  run-before n b (t + 1) is (subst (λ (z : ℕ). Run n z is) (let w : (b + t) + 1 ≡ b + (t + 1) = omega arith in w) r.1) (omega arith) (omega arith),
)

pub run-distinct : (n b : ℕ) (xs : List InLine) → Run n b xs → length xs ≤ n → Distinct xs
run-distinct n b [] r le = tt
run-distinct n b (i ∷ is) r le = (subst (λ (z : ℕ). Absent z is) (sym r.0) (run-before n b 1 is r.1 (omega arith) (omega arith)), run-distinct n (b + 1) is r.1 (omega arith))

pub run-append : (n b : ℕ) (xs : List InLine) (i : InLine) → Run n b xs → i.cell ≡ (b + length xs) % n → Run n b (xs ++ i ∷ [])
run-append n b [] i r e = (subst (λ (z : ℕ). i.cell ≡ z % n) (let w : b + 0 ≡ b = omega arith in w) e, tt)
run-append n b (x ∷ xs) i r e = (r.0, run-append n (b + 1) xs i r.1 (subst (λ (z : ℕ). i.cell ≡ z % n) (let w : b + suc (length xs) ≡ (b + 1) + length xs = omega arith in w) e))

-- once round the ring
pub run-round : (n b : ℕ) (xs : List InLine) → ((x : ℕ) → (x + n) % n ≡ x % n) → Run n b xs → Run n (b + n) xs
run-round n b [] turn r = tt
run-round n b (i ∷ is) turn r = (r.0 ∙ sym (turn b), subst (λ (z : ℕ). Run n z is) (let w : (b + 1) + n ≡ (b + n) + 1 = omega arith in w) (run-round n (b + 1) is turn r.1))

pub cell-absent : (j : ℕ) (xs : List InLine) → Absent j xs → cell_value j xs ≡ 0
cell-absent j [] e = refl
cell-absent j (i ∷ is) e = rw (ne_eqb i.cell j e.0) (cell-absent j is e.1)

-- one more that is claimed changes no cell
pub cell-append : (j : ℕ) (xs : List InLine) (i : InLine) → i.stage ≡ 0 → cell_value j (xs ++ i ∷ []) ≡ cell_value j xs
cell-append j [] i e = rw e (cond-zero (eqb i.cell j))
cell-append j (x ∷ xs) i e = ap (λ (z : ℕ). cond (eqb x.cell j) (cond (eqb x.stage 1) (code x.entry) 0) z) (cell-append j xs i e)

-- the first item that passes comes to another stage
module _ (s t j : ℕ) (en : Entry) where
  abbrev p : InLine → Bool
  p = is_item s j en

  abbrev after : List InLine → List InLine
  after = restaged t p

  re-entries-cons : (b : Bool) (i : InLine) (is : List InLine) → entries_of (after is) ≡ entries_of is → entries_of (cond b (record i { stage = t } ∷ is) (i ∷ after is)) ≡ i.entry ∷ entries_of is
  re-entries-cons true i is e = refl
  re-entries-cons false i is e = ap (λ (es : List Entry). i.entry ∷ es) e

  pub re-entries : (xs : List InLine) → entries_of (after xs) ≡ entries_of xs
  re-entries [] = refl
  re-entries (i ∷ is) = re-entries-cons (p i) i is (re-entries is)

  pub re-length : (xs : List InLine) → length (after xs) ≡ length xs
  re-length xs = sym (entries-length (after xs)) ∙ (ap length (re-entries xs) ∙ entries-length xs)

  re-run-cons : (n b : ℕ) (q : Bool) (i : InLine) (is : List InLine) → Run n b (i ∷ is) → Run n (b + 1) (after is) → Run n b (cond q (record i { stage = t } ∷ is) (i ∷ after is))
  re-run-cons n b true i is r h = (r.0, r.1)
  re-run-cons n b false i is r h = (r.0, h)

  pub re-run : (n b : ℕ) (xs : List InLine) → Run n b xs → Run n b (after xs)
  re-run n b [] r = tt
  re-run n b (i ∷ is) r = re-run-cons n b (p i) i is r (re-run n (b + 1) is r.1)

  re-below-cons : (q : Bool) (i : InLine) (is : List InLine) → t ≢ 2 → (i.stage ≢ 2) × Each (λ (x : InLine). x.stage ≢ 2) is → Each (λ (x : InLine). x.stage ≢ 2) (after is) → Each (λ (x : InLine). x.stage ≢ 2) (cond q (record i { stage = t } ∷ is) (i ∷ after is))
  re-below-cons true i is l e h = (l, e.1)
  re-below-cons false i is l e h = (e.0, h)

  re-below : (xs : List InLine) → t ≢ 2 → Each (λ (x : InLine). x.stage ≢ 2) xs → Each (λ (x : InLine). x.stage ≢ 2) (after xs)
  re-below [] l e = tt
  re-below (i ∷ is) l e = re-below-cons (p i) i is l e (re-below is l e.1)

  re-first-cons : (q : Bool) (i : InLine) (is : List InLine) → t ≢ 2 → Each (λ (x : InLine). x.stage ≢ 2) is → OnlyFirst (cond q (record i { stage = t } ∷ is) (i ∷ after is))
  re-first-cons true i is l e = e
  re-first-cons false i is l e = re-below is l e

  pub re-first : (xs : List InLine) → t ≢ 2 → OnlyFirst xs → OnlyFirst (after xs)
  re-first [] l e = tt
  re-first (i ∷ is) l e = re-first-cons (p i) i is l e

  re-staged-cons : (q : Bool) (i : InLine) (is : List InLine) → t < 3 → (i.stage < 3) × Each (λ (x : InLine). x.stage < 3) is → Each (λ (x : InLine). x.stage < 3) (after is) → Each (λ (x : InLine). x.stage < 3) (cond q (record i { stage = t } ∷ is) (i ∷ after is))
  re-staged-cons true i is l e h = (l, e.1)
  re-staged-cons false i is l e h = (e.0, h)

  pub re-staged : t < 3 → (xs : List InLine) → Each (λ (x : InLine). x.stage < 3) xs → Each (λ (x : InLine). x.stage < 3) (after xs)
  re-staged l [] e = tt
  re-staged l (i ∷ is) e = re-staged-cons (p i) i is l e (re-staged l is e.1)

  -- counts: one less of the old stage, one more of the new
  re-many-cons : (q : InLine → Bool) (x y : ℕ) → ((i : InLine) → p i ≡ true → (cond {A = ℕ} (q i) 1 0 ≡ x) × (cond {A = ℕ} (q (record i { stage = t })) 1 0 ≡ y)) → (b : Bool) (i : InLine) (is : List InLine) → p i ≡ b → (0 < many p is → many q (after is) + x ≡ many q is + y) → 0 < cond b 1 0 + many p is
      → many q (cond b (record i { stage = t } ∷ is) (i ∷ after is)) + x ≡ (cond (q i) 1 0 + many q is) + y
  re-many-cons q x y h true i is e rest l = let z = h i e in let z0 = z.0 in let z1 = z.1 in omega arith
  re-many-cons q x y h false i is e rest l = let r = rest (omega arith) in omega arith

  pub re-many : (q : InLine → Bool) (x y : ℕ) → ((i : InLine) → p i ≡ true → (cond {A = ℕ} (q i) 1 0 ≡ x) × (cond {A = ℕ} (q (record i { stage = t })) 1 0 ≡ y)) → (xs : List InLine) → 0 < many p xs → many q (after xs) + x ≡ many q xs + y
  re-many q x y h [] l = absurd (omega arith)
  re-many q x y h (i ∷ is) l = re-many-cons q x y h (p i) i is refl (re-many q x y h is) l

  -- the cells: that of the item, and the others
  not-item : (i : InLine) → i.cell ≢ j → p i ≡ false
  not-item i n = false_from_ne_true (p i) (λ e. n (item-is s j en i e).1)

  none-passes : (xs : List InLine) → Absent j xs → many p xs ≡ 0
  none-passes [] e = refl
  none-passes (i ∷ is) e = let a = none-passes is e.1 in rw (not-item i e.0) (omega arith)

  re-cell-cons : (b : Bool) (i : InLine) (is : List InLine) → p i ≡ b → Absent i.cell is → (0 < many p is → cell_value j (after is) ≡ cond (eqb t 1) (code en) 0) → 0 < cond b 1 0 + many p is
      → cell_value j (cond b (record i { stage = t } ∷ is) (i ∷ after is)) ≡ cond (eqb t 1) (code en) 0
  re-cell-cons true i is e d rest l = let z = item-is s j en i e in rw (eq-eqb i.cell j z.1) (λ x. cond (eqb t 1) (code (z.2 x)) 0)
  re-cell-cons false i is e d rest l = dite (ℕ_discrete i.cell j)
      (λ same. let a = none-passes is (subst (λ (z : ℕ). Absent z is) same d) in absurd (omega arith))
      (λ other. rw (ne_eqb i.cell j other) (rest (omega arith)))

  pub re-cell : (xs : List InLine) → Distinct xs → 0 < many p xs → cell_value j (after xs) ≡ cond (eqb t 1) (code en) 0
  re-cell [] d l = absurd (omega arith)
  re-cell (i ∷ is) d l = re-cell-cons (p i) i is refl d.0 (re-cell is d.1) l

  re-else-cons : (u : ℕ) → u ≢ j → (b : Bool) (i : InLine) (is : List InLine) → p i ≡ b → cell_value u (after is) ≡ cell_value u is → cell_value u (cond b (record i { stage = t } ∷ is) (i ∷ after is)) ≡ cell_value u (i ∷ is)
  re-else-cons u n true i is e rest = let z = item-is s j en i e in rw (ne_eqb i.cell u (λ h. n (sym h ∙ z.1))) refl
  re-else-cons u n false i is e rest = ap (λ (z : ℕ). cond (eqb i.cell u) (cond (eqb i.stage 1) (code i.entry) 0) z) rest

  pub re-else : (u : ℕ) → u ≢ j → (xs : List InLine) → cell_value u (after xs) ≡ cell_value u xs
  re-else u n [] = refl
  re-else u n (i ∷ is) = re-else-cons u n (p i) i is refl (re-else u n is)
