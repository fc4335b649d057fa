-- Each kind of step keeps its queue.
use Rattle.std.proofs.Common.{◌≡◌, ℕ, ◌+◌, ◌-◌, ◌*◌, ◌%◌, ◌<◌, ◌≢◌, List, [], ◌∷◌, ◌++◌, Bool, true, false, cond, length, set, get_or, drop, refl, sym, ap, subst, ◌∙◌, arith, eqb, eq-eqb, ne_eqb, eqb-true, mod-lt, length-append, get_or-set_same, get_or-set_other, mul-add, mul-one}
use mathlib.Core.Logic.{dite}
use native.Mathlib.Decide.{ℕ_discrete}
use Rattle.qp_model.specs.declared.bodies.Entry.{Entry}
use Rattle.qp_model.specs.declared.systems.System.{System}
use Rattle.qp_model.specs.Line.{Line}
use Rattle.qp_table.specs.Counting.{Each, many}
use Rattle.qp_table.specs.Rule.{InLine, Codable, code, cell_value, cell_at, Run, OnlyFirst, entries_of, is_item, QueueCells}
use Rattle.qp_table.proofs.Counting.{each-snoc}
use Rattle.qp_table.proofs.Lines.{restaged, entries-append, Absent, run-absent, run-distinct, run-append, run-round, cell-absent, cell-append, re-entries, re-length, re-run, re-first, re-staged, re-cell, re-else}

abbrev pub fresh_item : Entry → ℕ → InLine
fresh_item en j = record { entry = en; cell = j; stage = 0 }

below-first : (xs : List InLine) (i : InLine) → OnlyFirst xs → i.stage ≡ 0 → OnlyFirst (xs ++ i ∷ [])
below-first [] i o e = tt
below-first (x ∷ xs) i o e = each-snoc (λ (y : InLine). y.stage ≢ 2) xs i o (λ h. absurd (omega arith))

firsts : (is : List InLine) → Each (λ (y : InLine). y.stage ≢ 2) is → OnlyFirst is
firsts [] e = tt
firsts (i ∷ is) e = e.1

bounded-behind : (sys : System) (es : List Entry) → Each (Codable sys) es → Each (Codable sys) (drop 1 es)
bounded-behind sys [] e = tt
bounded-behind sys (x ∷ es) e = e.1

stage-case : (t : Bool) (stage : ℕ) (i : InLine) → eqb stage 1 ≡ t → cond {A = ℕ} t (code i.entry) 0 ≢ 0 → stage ≡ 1
stage-case true stage i e n = eqb-true stage 1 e
stage-case false stage i e n = absurd (n refl)

pub front-laid : (n b : ℕ) (items : List InLine) → Run n b items → cell_value (b % n) items ≢ 0 → (i : InLine) × (is : List InLine) × (items ≡ i ∷ is) × (i.stage ≡ 1) × (i.cell ≡ b % n) × (cell_value (b % n) items ≡ code i.entry)
front-laid n b [] r ne = absurd (ne refl)
front-laid n b (i ∷ is) r ne = let v : cell_value (b % n) (i ∷ is) ≡ cond (eqb i.stage 1) (code i.entry) 0 = rw (eq-eqb i.cell (b % n) r.0) refl in
    let one = stage-case (eqb i.stage 1) i.stage i refl (λ e. ne (v ∙ e)) in (i, is, refl, one, r.0, v ∙ rw one refl)

module _ (sys : System) (n : ℕ) (words : List ℕ) (a : ℕ) (s : Line) (items : List InLine) (q : QueueCells sys n words a s items) where
  -- a first-in place
  pub queue-post : (en : Entry) (j : ℕ) → length items < n → Codable sys en → j ≡ (s.m + (n - 1) * s.l + length items) % n → QueueCells sys n words a (record { entries = s.entries ++ en ∷ []; f = s.f + 1; l = s.l; m = s.m }) (items ++ fresh_item en j ∷ [])
  queue-post en j some_free bounds at = record {
    some_cell = q.some_cell;
    same = entries-append items (fresh_item en j ∷ []) ∙ ap (λ (es : List Entry). es ++ en ∷ []) q.same;
    run = run-append n (s.m + (n - 1) * s.l) items (fresh_item en j) q.run at;
    short = omega (arith, length-append items (fresh_item en j ∷ []));
    cells = λ u l. q.cells u l ∙ sym (cell-append u items (fresh_item en j) refl);
    first = below-first items (fresh_item en j) q.first refl;
    staged = each-snoc (λ (i : InLine). i.stage < 3) items (fresh_item en j) q.staged (omega arith);
    bounded = each-snoc (Codable sys) s.entries en q.bounded bounds;
    counted = let e = q.counted in omega (arith, length-append items (fresh_item en j ∷ []));
  }

  -- a last-in place: no item is under way
  pub queue-lifo : (en : Entry) (j : ℕ) → length items < n → Codable sys en → Each (λ (i : InLine). i.stage ≢ 2) items → j ≡ (s.m + (n - 1) * s.l + (n - 1)) % n → ((x : ℕ) → (x + n) % n ≡ x % n)
      → QueueCells sys n words a (record { entries = en ∷ s.entries; f = s.f; l = s.l + 1; m = s.m }) (fresh_item en j ∷ items)
  queue-lifo en j some_free bounds still at turn = let pos = q.some_cell in
      let step : (n - 1) * (s.l + 1) ≡ (n - 1) * s.l + (n - 1) = mul-add (n - 1) s.l 1 ∙ ap (λ (z : ℕ). (n - 1) * s.l + z) (mul-one (n - 1)) in
      let base : s.m + (n - 1) * (s.l + 1) ≡ s.m + (n - 1) * s.l + (n - 1) = omega arith in
      let gone = run-absent n (s.m + (n - 1) * s.l) (n - 1) items q.run (omega arith) (omega arith) in record {
        some_cell = q.some_cell;
        same = ap (λ (es : List Entry). en ∷ es) q.same;
        run = (at ∙ ap (λ (z : ℕ). z % n) (sym base), subst (λ (z : ℕ). Run n z items) (let w : s.m + (n - 1) * s.l + n ≡ (s.m + (n - 1) * (s.l + 1)) + 1 = omega arith in w) (run-round n (s.m + (n - 1) * s.l) items turn q.run));
        short = omega arith;
        cells = λ u lt. q.cells u lt ∙ dite (ℕ_discrete u j)
            (λ e. let z = cell-absent j items (subst (λ (y : ℕ). Absent y items) (sym at) gone) in subst (λ (y : ℕ). cell_value y items ≡ cell_value y (fresh_item en j ∷ items)) (sym e) (rw (eq-eqb j j refl) z))
            (λ ne. rw (ne_eqb j u (λ e. ne (sym e))) refl);
        first = still;
        staged = (omega arith, q.staged);
        bounded = (bounds, q.bounded);
        counted = let e = q.counted in omega arith;
      }

  -- the cell of a claim is laid
  pub queue-lay : (j : ℕ) (en : Entry) → j < n → cell_at a j < length words → 0 < many (is_item 0 j en) items → QueueCells sys n (set words (cell_at a j) (code en)) a s (restaged 1 (is_item 0 j en) items)
  queue-lay j en inside wide there = let d = run-distinct n (s.m + (n - 1) * s.l) items q.run q.short in record {
    some_cell = q.some_cell;
    same = re-entries 0 1 j en items ∙ q.same;
    run = re-run 0 1 j en n (s.m + (n - 1) * s.l) items q.run;
    short = rw (re-length 0 1 j en items) q.short;
    cells = λ u l. dite (ℕ_discrete u j)
        (λ e. subst (λ (z : ℕ). get_or (set words (cell_at a j) (code en)) (cell_at a z) 0 ≡ cell_value z (restaged 1 (is_item 0 j en) items)) (sym e)
        (get_or-set_same words (cell_at a j) (code en) 0 wide ∙ sym (re-cell 0 1 j en items d there)))
        (λ ne. get_or-set_other words (cell_at a j) (cell_at a u) (code en) 0 (λ e. ne (omega arith)) ∙ (q.cells u l ∙ sym (re-else 0 1 j en u ne items)));
    first = re-first 0 1 j en items (λ h. absurd (omega arith)) q.first;
    staged = re-staged 0 1 j en (omega arith) items q.staged;
    bounded = q.bounded;
    counted = rw (re-length 0 1 j en items) q.counted;
  }

  -- the front entry is taken out of its cell
  pub queue-empty : (i : InLine) (is : List InLine) → items ≡ i ∷ is → cell_at a i.cell < length words → QueueCells sys n (set words (cell_at a i.cell) 0) a s (record i { stage = 2 } ∷ is)
  queue-empty i is e wide = let r = subst (Run n (s.m + (n - 1) * s.l)) e q.run in let sh = q.short in let le = ap length e in record {
    some_cell = q.some_cell;
    same = sym (ap entries_of e) ∙ q.same;
    run = (r.0, r.1);
    short = omega arith;
    cells = λ u l. dite (ℕ_discrete u i.cell)
        (λ same. subst (λ (z : ℕ). get_or (set words (cell_at a i.cell) 0) (cell_at a z) 0 ≡ cell_value z (record i { stage = 2 } ∷ is)) (sym same)
        (get_or-set_same words (cell_at a i.cell) 0 0 wide ∙ sym (rw (eq-eqb i.cell i.cell refl) refl)))
        (λ ne. get_or-set_other words (cell_at a i.cell) (cell_at a u) 0 0 (λ z. ne (omega arith)) ∙ (q.cells u l ∙ (ap (cell_value u) e ∙ rw (ne_eqb i.cell u (λ z. ne (sym z))) refl)));
    first = subst OnlyFirst e q.first;
    staged = (omega arith, (subst (Each (λ (x : InLine). x.stage < 3)) e q.staged).1);
    bounded = q.bounded;
    counted = let c = q.counted in omega arith;
  }

  -- the entry under way is gone
  pub queue-took : (i : InLine) (is : List InLine) → items ≡ i ∷ is → i.stage ≡ 2 → QueueCells sys n words a (record { entries = drop 1 s.entries; f = s.f; l = s.l; m = s.m + 1 }) is
  queue-took i is e two = let r = subst (Run n (s.m + (n - 1) * s.l)) e q.run in let sh = q.short in let le = ap length e in
      let d = run-distinct n (s.m + (n - 1) * s.l) (i ∷ is) r (omega arith) in record {
        some_cell = q.some_cell;
        same = ap (drop 1) (sym (ap entries_of e) ∙ q.same);
        run = subst (λ (z : ℕ). Run n z is) (let w : s.m + (n - 1) * s.l + 1 ≡ (s.m + 1) + (n - 1) * s.l = omega arith in w) r.1;
        short = omega arith;
        cells = λ u l. q.cells u l ∙ (ap (cell_value u) e ∙ dite (ℕ_discrete u i.cell)
            (λ same. subst (λ (z : ℕ). cell_value z (i ∷ is) ≡ cell_value z is) (sym same) (rw (eq-eqb i.cell i.cell refl, two) (sym (cell-absent i.cell is d.0))))
            (λ ne. rw (ne_eqb i.cell u (λ z. ne (sym z))) refl));
        first = firsts is (subst OnlyFirst e q.first);
        staged = (subst (Each (λ (x : InLine). x.stage < 3)) e q.staged).1;
        bounded = bounded-behind sys s.entries q.bounded;
        counted = let c = q.counted in omega arith;
      }

  -- what the front cell shows: nothing, or the entry that is laid there
  pub queue-front : get_or words (cell_at a ((s.m + (n - 1) * s.l) % n)) 0 ≢ 0 → (i : InLine) × (is : List InLine) × (items ≡ i ∷ is) × (i.stage ≡ 1) × (i.cell ≡ (s.m + (n - 1) * s.l) % n) × (get_or words (cell_at a ((s.m + (n - 1) * s.l) % n)) 0 ≡ code i.entry)
  queue-front some_value = let pos = q.some_cell in let inside : (s.m + (n - 1) * s.l) % n < n = mod-lt (s.m + (n - 1) * s.l) pos.0 in
      let is_cell = q.cells ((s.m + (n - 1) * s.l) % n) inside in
      let z = front-laid n (s.m + (n - 1) * s.l) items q.run (λ e. some_value (is_cell ∙ e)) in (z.0, z.1, z.2, z.3, z.4, is_cell ∙ z.5)
