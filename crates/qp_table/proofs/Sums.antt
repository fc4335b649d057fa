-- The blocks and references, after each kind of step on a block or a pool.
use Rattle.std.proofs.Common.{◌≡◌, ℕ, ◌+◌, ◌/◌, ◌%◌, ◌<◌, ◌≤◌, ◌≢◌, ◌⊎◌, List, [], ◌∷◌, ◌++◌, Bool, true, false, cond, ◌&&◌, length, set, refl, sym, ap, subst, ◌∙◌, inl, inr, arith, eqb, eq-eqb, ne_eqb, eqb-true}
use mathlib.Core.Option.{some}
use mathlib.Core.Logic.{dite}
use native.Mathlib.Decide.{ℕ_discrete}
use lib.ListN.{get_elem?}
use Rattle.qp_chart.specs.StateTree.{has}
use Rattle.qp_model.specs.declared.systems.System.{System}
use Rattle.qp_model.specs.FreeBlocks.{Pool}
use Rattle.qp_model.specs.References.{Refs}
use Rattle.qp_model.specs.Lists.{without_one, without_all, with_number}
use Rattle.qp_model.specs.WordLaw.{is_block}
use Rattle.qp_table.specs.Counting.{Each, many, without}
use Rattle.qp_table.specs.Now.{Now, with_refs, with_given}
use Rattle.qp_table.specs.Rule.{is_spot, is_spot_at, is_ref, free_bit, lives, spots, spots_at, in_lines, Tokens}
use Rattle.qp_table.specs.After.{spot, ref}
use Rattle.qp_table.specs.declared.view.Spot.{Spot}
use Rattle.qp_table.specs.declared.view.View.{View}
use Rattle.qp_table.proofs.Counting.{total-at, many-snoc, many-without}
use Rattle.qp_table.proofs.Growing.{at-here, at-else, two-here, two-else}
use Rattle.qp_table.proofs.Bounds.{has-without, has-with}
use Rattle.qp_table.proofs.Tokens.{b2n, tokens-set, fresh-after, used-after-set, fresh-at, used-at, fresh-alone, used-alone, standing, held-stands, spot-same, spot-self, spot-at-self, spot-else, spot-at-else, at-some, spots-le, ref-is, ref-here, ref-else, each-two, lives-counted, dec-many, used-more, above-none, above-without}

module _ (sys : System) (views : List View) (now : Now) (id : ℕ) (v u : View) (at_id : get_elem? views id ≡ some v) (tokens : Tokens sys views now) (p b : ℕ) where
  abbrev old : Refs
  old = now.refs p b

  abbrev made : Now
  made = with_refs now p b (record { count = old.count + 1; names = old.count ∷ old.names })

  names-here : (s : Refs) → (with_refs now p b s).refs p b ≡ s
  names-here s = two-here p b s now.refs

  names-else : (s : Refs) (q c : ℕ) → (q ≢ p) ⊎ (c ≢ b) → (with_refs now p b s).refs q c ≡ now.refs q c
  names-else s q c n = two-else p b s now.refs q c n

  -- the changed sums of the fresh and used blocks, by how the view's own lists change
  placed-at : (next : Now) → ((q c : ℕ) → (q ≢ p) ⊎ (c ≢ b) → (next.edge q c ≡ now.edge q c) × ((next.refs q c).count ≡ (now.refs q c).count))
      → ((q c n : ℕ) → (q ≢ p) ⊎ (c ≢ b) → many (is_spot_at q c n) u.fresh ≤ many (is_spot_at q c n) v.fresh)
      → ((n : ℕ) → 0 < spots_at (λ z. z.fresh) (set views id u) p b n → (next.edge p b ≡ n) × ((next.refs p b).count ≡ n))
      → (q c n : ℕ) → 0 < spots_at (λ z. z.fresh) (set views id u) q c n → (next.edge q c ≡ n) × ((next.refs q c).count ≡ n)
  placed-at next same fewer here = each-two (λ q c. (n : ℕ) → 0 < spots_at (λ z. z.fresh) (set views id u) q c n → (next.edge q c ≡ n) × ((next.refs q c).count ≡ n)) p b here
      (λ q c ne n h. let e = same q c ne in let o = tokens.begun q c n (let f = fresh-at sys views now next id v u at_id tokens q c n in let w = fewer q c n ne in omega arith) in (e.0 ∙ o.0, e.1 ∙ o.1))

  worn-at : (next : Now) → ((q c : ℕ) → (q ≢ p) ⊎ (c ≢ b) → (next.edge q c ≡ now.edge q c) × ((next.refs q c).count ≡ (now.refs q c).count))
      → ((q c n : ℕ) → (q ≢ p) ⊎ (c ≢ b) → many (is_spot_at q c n) u.used ≤ many (is_spot_at q c n) v.used)
      → ((n : ℕ) → 0 < spots_at (λ z. z.used) (set views id u) p b n → (next.edge p b < n) × ((next.refs p b).count ≡ n))
      → (q c n : ℕ) → 0 < spots_at (λ z. z.used) (set views id u) q c n → (next.edge q c < n) × ((next.refs q c).count ≡ n)
  worn-at next same fewer here = each-two (λ q c. (n : ℕ) → 0 < spots_at (λ z. z.used) (set views id u) q c n → (next.edge q c < n) × ((next.refs q c).count ≡ n)) p b here
      (λ q c ne n h. let e = same q c ne in let o = tokens.worn q c n (let f = used-at sys views now next id v u at_id tokens q c n in let w = fewer q c n ne in omega arith) in (rw e.0 o.0, e.1 ∙ o.1))

  -- where no token of the block is left
  none-fresh : (next : Now) → spots (λ z. z.fresh) (set views id u) p b ≡ 0 → (n : ℕ) → 0 < spots_at (λ z. z.fresh) (set views id u) p b n → (next.edge p b ≡ n) × ((next.refs p b).count ≡ n)
  none-fresh next gone n h = let l = spots-le (λ z. z.fresh) (set views id u) p b n in absurd (omega arith)

  none-used : (next : Now) → spots (λ z. z.used) (set views id u) p b ≡ 0 → (n : ℕ) → 0 < spots_at (λ z. z.used) (set views id u) p b n → (next.edge p b < n) × ((next.refs p b).count ≡ n)
  none-used next gone n h = let l = spots-le (λ z. z.used) (set views id u) p b n in absurd (omega arith)

  refs-same : (s : Refs) (q c : ℕ) → (q ≢ p) ⊎ (c ≢ b) → ((with_refs now p b s).edge q c ≡ now.edge q c) × (((with_refs now p b s).refs q c).count ≡ (now.refs q c).count)
  refs-same s q c n = (refl, ap (λ (t : Refs). t.count) (names-else s q c n))

  named-set : (s : Refs) → Each (λ r. now.edge p b ≤ r) s.names → (q c : ℕ) → Each (λ r. now.edge q c ≤ r) ((with_refs now p b s).refs q c).names
  named-set s here = each-two (λ q c. Each (λ r. now.edge q c ≤ r) ((with_refs now p b s).refs q c).names) p b
      (subst (λ (t : Refs). Each (λ r. now.edge p b ≤ r) t.names) (sym (names-here s)) here)
      (λ q c n. subst (λ (t : Refs). Each (λ r. now.edge q c ≤ r) t.names) (sym (names-else s q c n)) (tokens.named q c))

  -- one token of the block goes
  less-spot : (xs : List Spot) → 0 < many (is_spot p b) xs → (q c : ℕ) → many (is_spot q c) (without (is_spot p b) xs) + b2n (is_spot q c (spot p b 0)) ≡ many (is_spot q c) xs
  less-spot xs own q c = many-without (is_spot p b) (is_spot q c) (is_spot q c (spot p b 0)) (λ x e. spot-same p b 0 q c x e) xs own

  without-cons : (test : Spot → Bool) (t : Bool) (x : Spot) (xs : List Spot) → many test (without (is_spot p b) xs) ≤ many test xs → many test (cond t xs (x ∷ without (is_spot p b) xs)) ≤ b2n (test x) + many test xs
  without-cons test true x xs h = omega arith
  without-cons test false x xs h = omega arith

  fewer-spots : (test : Spot → Bool) (xs : List Spot) → many test (without (is_spot p b) xs) ≤ many test xs
  fewer-spots test [] = omega arith
  fewer-spots test (x ∷ xs) = without-cons test (is_spot p b x) x xs (fewer-spots test xs)

  -- the first reference to a fresh block
  pub began-tokens : 0 < p → 0 < many (is_spot p b) v.fresh → u.fresh ≡ without (is_spot p b) v.fresh → u.used ≡ v.used → u.hands ≡ v.hands ++ ref p b old.count ∷ [] → Tokens sys (set views id u) made
  began-tokens pos own fresh used hands =
      let alone = fresh-alone sys views now id v at_id tokens p b own in
      let less : (q c : ℕ) → many (is_spot q c) u.fresh + b2n (is_spot q c (spot p b 0)) ≡ many (is_spot q c) v.fresh = (λ q c. rw fresh (less-spot v.fresh own q c)) in
      let one : b2n (is_spot p b (spot p b 0)) ≡ 1 = ap b2n (spot-self p b 0) in
      let s : Refs = record { count = old.count + 1; names = old.count ∷ old.names } in
      let at = at-some p b v.fresh own in let life = tokens.begun p b at.0 (let t = total-at (λ (z : View). many (is_spot_at p b at.0) z.fresh) views id v at_id in let a1 = at.1 in omega arith) in
      tokens-set sys views now made id v u at_id tokens
      (each-two (λ q c. free_bit made q c + many (is_spot q c) u.fresh + many (is_spot q c) u.used + lives (made.refs q c).names ≡ free_bit now q c + many (is_spot q c) v.fresh + many (is_spot q c) v.used + lives (now.refs q c).names) p b
      (rw (used, names-here s) (let l = less p b in let z = alone.2 in omega arith))
      (λ q c n. rw (used, names-else s q c n) (let l = less q c in let z = ap b2n (spot-else p b 0 q c n) in omega arith)))
      (λ q c k l. each-two (λ q c. many (is_ref q c k) u.hands + in_lines made q c k + many (λ r. eqb r k) (now.refs q c).names ≡ many (is_ref q c k) v.hands + in_lines now q c k + many (λ r. eqb r k) (made.refs q c).names) p b
      (rw (hands, names-here s) (let m = many-snoc (is_ref p b k) v.hands (ref p b old.count) in let z = ap b2n (ref-here p b old.count k) in omega arith))
      (λ q c n. rw (hands, names-else s q c n) (let m = many-snoc (is_ref q c k) v.hands (ref p b old.count) in let z = ap b2n (ref-else p b old.count q c k n) in omega arith)) q c)
      (placed-at made (refs-same s) (λ q c n ne. rw fresh (fewer-spots (is_spot_at q c n) v.fresh)) (none-fresh made (let f = fresh-after sys views now made id v u at_id tokens p b in let l = less p b in let o = alone.4 in omega arith)))
      (worn-at made (refs-same s) (λ q c n ne. rw used (omega arith)) (none-used made (let f = used-after-set sys views now made id v u at_id tokens p b in let e = ap (many (is_spot p b)) used in let o = alone.3 in omega arith)))
      (named-set s (let l0 = life.0 in let l1 = life.1 in omega arith, above-none (now.edge p b) old.names alone.2))

  -- another reference
  pub doubled-tokens : (r : ℕ) → 0 < p → 0 < many (is_ref p b r) v.hands → now.edge p b ≤ old.count → u.fresh ≡ v.fresh → u.used ≡ v.used → u.hands ≡ v.hands ++ ref p b old.count ∷ [] → Tokens sys (set views id u) made
  doubled-tokens r pos own within fresh used hands =
      let there = held-stands sys views now id v at_id tokens p b r pos own in
      let alone = standing sys views now id v at_id tokens p b r there in
      let one : lives old.names ≡ 1 = lives-one r old.names there in
      let s : Refs = record { count = old.count + 1; names = old.count ∷ old.names } in
      tokens-set sys views now made id v u at_id tokens
      (each-two (λ q c. free_bit made q c + many (is_spot q c) u.fresh + many (is_spot q c) u.used + lives (made.refs q c).names ≡ free_bit now q c + many (is_spot q c) v.fresh + many (is_spot q c) v.used + lives (now.refs q c).names) p b
      (rw (fresh, used, names-here s) (omega arith))
      (λ q c n. rw (fresh, used, names-else s q c n) refl))
      (λ q c k l. each-two (λ q c. many (is_ref q c k) u.hands + in_lines made q c k + many (λ r. eqb r k) (now.refs q c).names ≡ many (is_ref q c k) v.hands + in_lines now q c k + many (λ r. eqb r k) (made.refs q c).names) p b
      (rw (hands, names-here s) (let m = many-snoc (is_ref p b k) v.hands (ref p b old.count) in let z = ap b2n (ref-here p b old.count k) in omega arith))
      (λ q c n. rw (hands, names-else s q c n) (let m = many-snoc (is_ref q c k) v.hands (ref p b old.count) in let z = ap b2n (ref-else p b old.count q c k n) in omega arith)) q c)
      (placed-at made (refs-same s) (λ q c n ne. rw fresh (omega arith)) (none-fresh made (let f = fresh-after sys views now made id v u at_id tokens p b in let e = ap (many (is_spot p b)) fresh in let o = alone.3 in omega arith)))
      (worn-at made (refs-same s) (λ q c n ne. rw used (omega arith)) (none-used made (let f = used-after-set sys views now made id v u at_id tokens p b in let e = ap (many (is_spot p b)) used in let o = alone.4 in omega arith)))
      (named-set s (within, tokens.named p b))
    where
      lives-one : (k : ℕ) (xs : List ℕ) → 0 < many (λ r. eqb r k) xs → lives xs ≡ 1
      lives-one k [] h = absurd (omega arith)
      lives-one k (x ∷ xs) h = refl

  abbrev let_go : ℕ → Refs
  let_go r = record { count = old.count + 1; names = without_one r old.names }

  -- a reference is dropped; the block is used where none is left
  pub dropped-tokens : (r n : ℕ) → 0 < p → 0 < many (is_ref p b r) v.hands → n % 4294967296 ≡ length (let_go r).names → n / 4294967296 ≡ old.count + 1 → now.edge p b ≤ old.count
      → u.fresh ≡ v.fresh → u.used ≡ cond (eqb (n % 4294967296) 0) (v.used ++ spot p b (n / 4294967296) ∷ []) v.used → u.hands ≡ without (is_ref p b r) v.hands → Tokens sys (set views id u) (with_refs now p b (let_go r))
  dropped-tokens r n pos own left drawn within fresh used hands =
      let there = held-stands sys views now id v at_id tokens p b r pos own in
      let alone = standing sys views now id v at_id tokens p b r there in
      let one : lives old.names ≡ 1 = lives-one r old.names there in
      let t : Bool = eqb (n % 4294967296) 0 in let k : ℕ = n / 4294967296 in
      let s : Refs = let_go r in
      let more : Now = with_refs now p b s in
      let gain : (test : Spot → Bool) → many test u.used ≡ many test v.used + cond (test (spot p b k)) (cond t 1 0) 0 = (λ test. rw used (used-more t v.used p b k test)) in
      let counted : lives s.names + cond t 1 0 ≡ 1 = rw left (lives-counted s.names) in
      tokens-set sys views now more id v u at_id tokens
      (each-two (λ q c. free_bit more q c + many (is_spot q c) u.fresh + many (is_spot q c) u.used + lives (more.refs q c).names ≡ free_bit now q c + many (is_spot q c) v.fresh + many (is_spot q c) v.used + lives (now.refs q c).names) p b
      (rw (fresh, names-here s) (let g = gain (is_spot p b) in let z : cond {A = ℕ} (is_spot p b (spot p b k)) (cond t 1 0) 0 ≡ cond t 1 0 = ap (λ (y : Bool). cond {A = ℕ} y (cond t 1 0) 0) (spot-self p b k) in omega arith))
      (λ q c ne. rw (fresh, names-else s q c ne) (let g = gain (is_spot q c) in let z : cond {A = ℕ} (is_spot q c (spot p b k)) (cond t 1 0) 0 ≡ 0 = ap (λ (y : Bool). cond {A = ℕ} y (cond t 1 0) 0) (spot-else p b k q c ne) in omega arith)))
      (λ q c k l. each-two (λ q c. many (is_ref q c k) u.hands + in_lines more q c k + many (λ r. eqb r k) (now.refs q c).names ≡ many (is_ref q c k) v.hands + in_lines now q c k + many (λ r. eqb r k) (more.refs q c).names) p b
      (rw (hands, names-here s) (let m = many-without (is_ref p b r) (is_ref p b k) (is_ref p b k (ref p b r)) (λ x e. ap (is_ref p b k) (ref-is p b r x e)) v.hands own in let z = ap b2n (ref-here p b r k) in let d = dec-many r k old.names there in omega arith))
      (λ q c ne. rw (hands, names-else s q c ne) (let m = many-without (is_ref p b r) (is_ref q c k) (is_ref q c k (ref p b r)) (λ x e. ap (is_ref q c k) (ref-is p b r x e)) v.hands own in let z = ap b2n (ref-else p b r q c k ne) in omega arith)) q c)
      (placed-at more (refs-same s) (λ q c n ne. rw fresh (omega arith)) (none-fresh more (let f = fresh-after sys views now more id v u at_id tokens p b in let e = ap (many (is_spot p b)) fresh in let o = alone.3 in omega arith)))
      (worn-at more (refs-same s) (λ q c m ne. let g = gain (is_spot_at q c m) in let z : cond {A = ℕ} (is_spot_at q c m (spot p b k)) (cond t 1 0) 0 ≡ 0 = ap (λ (y : Bool). cond {A = ℕ} y (cond t 1 0) 0) (spot-at-else p b k q c m ne) in omega arith)
      (λ m h. let f = used-at sys views now more id v u at_id tokens p b m in let g = gain (is_spot_at p b m) in let none = spots-le (λ z. z.used) views p b m in let o = alone.4 in
      let at : k ≡ m = is-number k m (cond t 1 0) (spot-at-self p b k m) (omega arith) in (omega arith, ap (λ (t : Refs). t.count) (names-here s) ∙ (sym drawn ∙ at))))
      (named-set s (above-without (now.edge p b) r old.names (tokens.named p b)))
    where
      lives-one : (k : ℕ) (xs : List ℕ) → 0 < many (λ r. eqb r k) xs → lives xs ≡ 1
      lives-one k [] h = absurd (omega arith)
      lives-one k (x ∷ xs) h = refl

      number-case : (k m x : ℕ) (t : Bool) → eqb k m ≡ t → 0 < cond t x 0 → k ≡ m
      number-case k m x true e h = eqb-true k m e
      number-case k m x false e h = absurd (omega arith)

      is-number : (k m x : ℕ) → {y : Bool} → y ≡ eqb k m → 0 < cond y x 0 → k ≡ m
      is-number k m x {y} e h = number-case k m x (eqb k m) refl (subst (λ (t : Bool). 0 < cond t x 0) e h)

  abbrev taking : Pool
  taking = record { count = (now.pool p).count + 1; free = without_all b (now.pool p).free }

  abbrev giving : Pool
  giving = record { count = (now.pool p).count + 1; free = with_number b (now.pool p).free }

  abbrev pooled : Pool → ℕ → List ℕ → Now
  pooled s e t = with_given now p s b e t

  and-true : (t : Bool) → (t && true) ≡ t
  and-true true = refl
  and-true false = refl

  -- the free bits when one block goes or comes
  free-else : (s : Pool) (e : ℕ) (t : List ℕ) → ((c : ℕ) → c ≢ b → has s.free c ≡ has (now.pool p).free c) → (q c : ℕ) → (q ≢ p) ⊎ (c ≢ b) → free_bit (pooled s e t) q c ≡ free_bit now q c
  free-else s e t same q c (inl n) = ap (λ (t : Pool). cond {A = ℕ} (has t.free c) 1 0) (at-else p s now.pool q n)
  free-else s e t same q c (inr n) = dite (ℕ_discrete q p)
      (λ is. subst (λ z. free_bit (pooled s e t) z c ≡ free_bit now z c) (sym is) (ap (λ (t : Pool). cond {A = ℕ} (has t.free c) 1 0) (at-here p s now.pool) ∙ ap b2n (same c n)))
      (λ no. ap (λ (t : Pool). cond {A = ℕ} (has t.free c) 1 0) (at-else p s now.pool q no))

  -- a block is given out
  pub gave-tokens : (t : List ℕ) → is_block sys p b ≡ true → has (now.pool p).free b ≡ true → u.fresh ≡ v.fresh ++ spot p b old.count ∷ [] → u.used ≡ v.used → u.hands ≡ v.hands → Tokens sys (set views id u) (pooled taking old.count t)
  gave-tokens t block was fresh used hands =
      let next : Now = pooled taking old.count t in
      let gone : free_bit next p b ≡ 0 = ap (λ (t : Pool). cond {A = ℕ} (has t.free b) 1 0) (at-here p taking now.pool) ∙ ap b2n (let d : has (without_all b (now.pool p).free) b ≡ false = has-without b b (now.pool p).free ∙ rw (eq-eqb b b refl, was) refl in d) in
      let bit : free_bit now p b ≡ 1 = ap b2n was in
      let others = free-else taking old.count t (λ c n. has-without b c (now.pool p).free ∙ rw (ne_eqb b c (λ e. n (sym e))) (and-true (has (now.pool p).free c))) in
      let gain : (test : Spot → Bool) → many test u.fresh ≡ many test v.fresh + b2n (test (spot p b old.count)) = (λ test. rw fresh (many-snoc test v.fresh (spot p b old.count))) in
      let place = tokens.place p b in let le = ap b2n block in
      let unfresh : spots (λ z. z.fresh) views p b ≡ 0 = omega arith in
      tokens-set sys views now next id v u at_id tokens
      (each-two (λ q c. free_bit next q c + many (is_spot q c) u.fresh + many (is_spot q c) u.used + lives (next.refs q c).names ≡ free_bit now q c + many (is_spot q c) v.fresh + many (is_spot q c) v.used + lives (now.refs q c).names) p b
      (rw used (let g = gain (is_spot p b) in let z = ap b2n (spot-self p b old.count) in omega arith))
      (λ q c n. rw used (let g = gain (is_spot q c) in let z = ap b2n (spot-else p b old.count q c n) in let o = others q c n in omega arith)))
      (λ q c k l. rw hands refl)
      (placed-at next (λ q c n. (two-else p b old.count now.edge q c n, refl)) (λ q c n ne. let g = gain (is_spot_at q c n) in let z = ap b2n (spot-at-else p b old.count q c n ne) in omega arith)
      (λ m h. let f = fresh-at sys views now next id v u at_id tokens p b m in let g = gain (is_spot_at p b m) in let none = spots-le (λ z. z.fresh) views p b m in
      let at : old.count ≡ m = is-number old.count m (spot-at-self p b old.count m) (omega arith) in (two-here p b old.count now.edge ∙ at, at)))
      (worn-at next (λ q c n. (two-else p b old.count now.edge q c n, refl)) (λ q c n ne. rw used (omega arith)) (none-used next (let f = used-after-set sys views now next id v u at_id tokens p b in let e = ap (many (is_spot p b)) used in omega arith)))
      (each-two (λ q c. Each (λ r. next.edge q c ≤ r) (now.refs q c).names) p b (above-none (next.edge p b) old.names (omega arith)) (λ q c n. subst (λ (e : ℕ). Each (λ r. e ≤ r) (now.refs q c).names) (sym (two-else p b old.count now.edge q c n)) (tokens.named q c)))
    where
      number-case : (k m : ℕ) (t : Bool) → eqb k m ≡ t → 0 < b2n t → k ≡ m
      number-case k m true e h = eqb-true k m e
      number-case k m false e h = absurd (omega arith)

      is-number : (k m : ℕ) → {y : Bool} → y ≡ eqb k m → 0 < b2n y → k ≡ m
      is-number k m {y} e h = number-case k m (eqb k m) refl (subst (λ (t : Bool). 0 < b2n t) e h)

  -- a used block comes back
  pub back-tokens : (to : ℕ) (t : List ℕ) → 0 < many (is_spot p b) v.used → u.fresh ≡ v.fresh → u.used ≡ without (is_spot p b) v.used → u.hands ≡ v.hands → Tokens sys (set views id u) (pooled giving to t)
  back-tokens to t own fresh used hands =
      let next : Now = pooled giving to t in
      let alone = used-alone sys views now id v at_id tokens p b own in
      let come : free_bit next p b ≡ 1 = ap (λ (t : Pool). cond {A = ℕ} (has t.free b) 1 0) (at-here p giving now.pool) ∙ ap b2n (let d : has (with_number b (now.pool p).free) b ≡ true = has-with b b (now.pool p).free ∙ rw (eq-eqb b b refl) refl in d) in
      let bit : free_bit now p b ≡ 0 = ap b2n alone.1 in
      let others = free-else giving to t (λ c n. has-with b c (now.pool p).free ∙ rw (ne_eqb b c (λ e. n (sym e))) refl) in
      let less : (q c : ℕ) → many (is_spot q c) u.used + b2n (is_spot q c (spot p b 0)) ≡ many (is_spot q c) v.used = (λ q c. rw used (less-spot v.used own q c)) in
      let one = ap b2n (spot-self p b 0) in
      tokens-set sys views now next id v u at_id tokens
      (each-two (λ q c. free_bit next q c + many (is_spot q c) u.fresh + many (is_spot q c) u.used + lives (next.refs q c).names ≡ free_bit now q c + many (is_spot q c) v.fresh + many (is_spot q c) v.used + lives (now.refs q c).names) p b
      (rw fresh (let l = less p b in omega arith))
      (λ q c n. rw fresh (let l = less q c in let z = ap b2n (spot-else p b 0 q c n) in let o = others q c n in omega arith)))
      (λ q c k l. rw hands refl)
      (placed-at next (λ q c n. (two-else p b to now.edge q c n, refl)) (λ q c n ne. rw fresh (omega arith)) (none-fresh next (let f = fresh-after sys views now next id v u at_id tokens p b in let e = ap (many (is_spot p b)) fresh in let o = alone.3 in omega arith)))
      (worn-at next (λ q c n. (two-else p b to now.edge q c n, refl)) (λ q c n ne. rw used (fewer-spots (is_spot_at q c n) v.used)) (none-used next (let f = used-after-set sys views now next id v u at_id tokens p b in let l = less p b in let o = alone.4 in omega arith)))
      (each-two (λ q c. Each (λ r. next.edge q c ≤ r) (now.refs q c).names) p b (above-none (next.edge p b) old.names alone.2) (λ q c n. subst (λ (e : ℕ). Each (λ r. e ≤ r) (now.refs q c).names) (sym (two-else p b to now.edge q c n)) (tokens.named q c)))
