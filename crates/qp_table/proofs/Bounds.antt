-- How large numbers, counters and free maps get.
use Rattle.std.proofs.Common.{◌≡◌, ℕ, zero, suc, ◌+◌, ◌*◌, ◌^◌, ◌<◌, ◌≤◌, ◌==◌, nat_lt, List, [], ◌∷◌, Bool, true, false, not, cond, ◌&&◌, ◌||◌, length, refl, sym, ap, subst, ◌∙◌, arith, eqb, eq-eqb, ne_eqb, eqb-true, true≢false, length-append, pow-suc, pow_mono, mul-add, IsTrue}
use mathlib.Core.Logic.{dite}
use native.Mathlib.Decide.{ℕ_discrete}
use Rattle.std.proofs.lemmas.Bool.{and_parts}
use Rattle.std.proofs.lemmas.Bool.Decides.{nat_tests}
use Rattle.qp_chart.specs.StateTree.{has}
use Rattle.qp_model.specs.declared.record.Rec.{Rec}
use Rattle.qp_model.specs.declared.systems.System.{System}
use Rattle.qp_model.specs.declared.words.Word.TheVariants as word
use Rattle.qp_model.specs.declared.bodies.Body.{Body}
use Rattle.qp_model.specs.declared.bodies.Body.TheVariants.{New, Back, Inc, Dec}
use Rattle.qp_model.specs.Lists.{count_up, without_one, without_all, with_number, is_first}
use Rattle.qp_model.specs.History.{hist, lane_items, all_items}
use Rattle.qp_model.specs.FreeBlocks.{Pool, pool_next, pool_may, free_blocks}
use Rattle.qp_model.specs.References.{Refs, refs_next, refs_may, references}
use Rattle.qp_model.specs.Sites.{blocks_of}
use Rattle.qp_model.specs.WordLaw.{is_pool, is_block}
use Rattle.qp_model.proofs.HistoryLemmas.{length-hist, total-length}
use Rattle.qp_model.proofs.MachineLemmas.{after-keeps, count-after}
use Rattle.qp_model.proofs.WordLawLemmas.{free_blocks-counts, references-counts}
use Rattle.qp_table.specs.Counting.{Each, many}
use Rattle.qp_table.specs.Now.{Now, LeavesWords}
use Rattle.qp_table.specs.Rule.{bits_value}
use Rattle.qp_model.proofs.RecordLemmas.{lane-length}

pub all-length : (m : ℕ) (lanes : List (List Rec)) → Each (λ (l : List Rec). length l ≤ m) lanes → length (all_items lanes) ≤ m * length lanes
unfolding all_items
all-length m [] e = omega arith
all-length m (l ∷ ls) e = let r = all-length m ls e.1 in let s = lane-length l in let x = e.0 in omega (arith, length-append (lane_items l) (all_items ls), mul-add m 1 (length ls))

-- ascending from lo, below n
abbrev pub Ascends : ℕ → ℕ → List ℕ → Type 0
Ascends lo n [] = lo ≤ n
Ascends lo n (x ∷ xs) = (lo ≤ x) × (x < n) × Ascends (x + 1) n xs

pub ascends-up : (lo k n : ℕ) → lo + k ≤ n → Ascends lo n (count_up lo k)
ascends-up lo zero n h = omega arith
ascends-up lo (suc k) n h = (omega arith, omega arith, ascends-up (lo + 1) k n (omega arith))

pub ascends-less : (lo hi n : ℕ) (xs : List ℕ) → lo ≤ hi → Ascends hi n xs → Ascends lo n xs
ascends-less lo hi n [] le a = omega arith
ascends-less lo hi n (x ∷ xs) le a = let l = a.0 in (omega arith, a.1, a.2)

without-ascends : (b lo n : ℕ) (xs : List ℕ) → Ascends lo n xs → Ascends lo n (without_all b xs)
without-ascends b lo n [] a = a
without-ascends b lo n (x ∷ xs) a = let l = a.0 in go (x == b) (without-ascends b (x + 1) n xs a.2)
  where
    go : (t : Bool) → Ascends (x + 1) n (without_all b xs) → Ascends lo n (cond t (without_all b xs) (x ∷ without_all b xs))
    go true r = ascends-less lo (x + 1) n (without_all b xs) (omega arith) r
    go false r = (a.0, a.1, r)

pub with-ascends : (b lo n : ℕ) (xs : List ℕ) → lo ≤ b → b < n → Ascends lo n xs → Ascends lo n (with_number b xs)
with-ascends b lo n [] l h a = (l, h, omega arith)
with-ascends b lo n (x ∷ xs) l h a = go (λ gt. with-ascends b (x + 1) n xs gt h a.2) (nat_lt b x) (b == x) refl refl
  where
    go : (x + 1 ≤ b → Ascends (x + 1) n (with_number b xs)) → (s t : Bool) → nat_lt b x ≡ s → (b == x) ≡ t → Ascends lo n (cond s (b ∷ x ∷ xs) (cond t (x ∷ xs) (x ∷ with_number b xs)))
    go rest true t e f = let lt : b < x = grind (arith, nat_tests) in (l, h, (omega arith, a.1, a.2))
    go rest false true e f = a
    go rest false false e f = let gt : x + 1 ≤ b = grind (arith, nat_tests) in (a.0, a.1, rest gt)

pool-step : (n : ℕ) (s : Pool) (b : Body) → pool_may n s b ≡ true → Ascends 0 n s.free → Ascends 0 n (pool_next s b).free
pool-step n s (New p k b from sig pars) m a = without-ascends b 0 n s.free a
pool-step n s (Back p k b to) m a =
    let t : nat_lt b n ≡ true = (and_parts (k == s.count) (nat_lt b n) (and_parts ((k == s.count) && nat_lt b n) (not (has s.free b)) m).0).1 in let lt : b < n = grind (arith, nat_tests) in with-ascends b 0 n s.free (omega arith) lt a
pool-step n s _ m a = cc

without-one-length : (k : ℕ) (xs : List ℕ) → length (without_one k xs) ≤ length xs
without-one-length k [] = omega arith
without-one-length k (x ∷ xs) = go (x == k) (without-one-length k xs)
  where
    go : (t : Bool) → length (without_one k xs) ≤ length xs → length (cond t xs (x ∷ without_one k xs)) ≤ suc (length xs)
    go true h = omega arith
    go false h = omega arith

refs-step : (s : Refs) (b : Body) → refs_may s b ≡ true → length s.names ≤ s.count → length (refs_next s b).names ≤ (refs_next s b).count
refs-step s (Inc p b r) m h = omega arith
refs-step s (Dec p b d k) m h = let w = without-one-length k s.names in omega arith
refs-step s _ m h = cc

names-less : (n : ℕ) (xs : List ℕ) → Each (λ r. r < n) xs → Each (λ r. r < n + 1) xs
names-less n [] e = tt
names-less n (x ∷ xs) e = (let l = e.0 in omega arith, names-less n xs e.1)

names-without : (n k : ℕ) (xs : List ℕ) → Each (λ r. r < n) xs → Each (λ r. r < n) (without_one k xs)
names-without n k [] e = tt
names-without n k (x ∷ xs) e = go (x == k) (names-without n k xs e.1)
  where
    go : (t : Bool) → Each (λ r. r < n) (without_one k xs) → Each (λ r. r < n) (cond t xs (x ∷ without_one k xs))
    go true h = e.1
    go false h = (e.0, h)

names-step : (s : Refs) (b : Body) → refs_may s b ≡ true → Each (λ r. r < s.count) s.names → Each (λ r. r < (refs_next s b).count) (refs_next s b).names
names-step s (Inc p b r) m h = let e : r ≡ s.count = eqb-true r s.count m in (omega arith, names-less s.count s.names h)
names-step s (Dec p b d k) m h = names-less s.count (without_one k s.names) (names-without s.count k s.names h)
names-step s _ m h = cc

pub named-below : (n k : ℕ) (xs : List ℕ) → Each (λ r. r < n) xs → 0 < many (λ r. eqb r k) xs → k < n
named-below n k [] e h = absurd (omega arith)
named-below n k (x ∷ xs) e h = go (eqb x k) refl (named-below n k xs e.1) h
  where
    go : (t : Bool) → eqb x k ≡ t → (0 < many (λ r. eqb r k) xs → k < n) → 0 < cond t 1 0 + many (λ r. eqb r k) xs → k < n
    go true is rest l = let z : x ≡ k = eqb-true x k is in let y = e.0 in omega arith
    go false is rest l = rest (omega arith)

-- each name stands once
abbrev pub Once : List ℕ → Type 0
Once xs = (k : ℕ) → many (λ r. eqb r k) xs ≤ 1

none-above : (n k : ℕ) (xs : List ℕ) → Each (λ r. r < n) xs → n ≤ k → many (λ r. eqb r k) xs ≡ 0
none-above n k [] e le = refl
none-above n k (x ∷ xs) e le = let r = none-above n k xs e.1 le in let l = e.0 in let z : cond {A = ℕ} (eqb x k) 1 0 ≡ 0 = ap (λ (t : Bool). cond {A = ℕ} t 1 0) (ne_eqb x k (λ q. absurd (omega arith))) in omega arith

fewer-without : (k j : ℕ) (xs : List ℕ) → many (λ r. eqb r j) (without_one k xs) ≤ many (λ r. eqb r j) xs
fewer-without k j [] = omega arith
fewer-without k j (x ∷ xs) = go (eqb x k) (fewer-without k j xs)
  where
    go : (t : Bool) → many (λ r. eqb r j) (without_one k xs) ≤ many (λ r. eqb r j) xs → many (λ r. eqb r j) (cond t xs (x ∷ without_one k xs)) ≤ cond (eqb x j) 1 0 + many (λ r. eqb r j) xs
    go true h = omega arith
    go false h = omega arith

once-step : (s : Refs) (b : Body) → refs_may s b ≡ true → Each (λ r. r < s.count) s.names × Once s.names → Each (λ r. r < (refs_next s b).count) (refs_next s b).names × Once (refs_next s b).names
once-step s (Inc p b r) m h = (
  names-step s (Inc p b r) m h.0,
  λ k. dite (ℕ_discrete r k)
      (λ e. let q : r ≡ s.count = eqb-true r s.count m in let n = none-above s.count k s.names h.0 (omega arith) in let c = cond-one (eqb r k) in omega arith)
      (λ ne. let c : cond {A = ℕ} (eqb r k) 1 0 ≡ 0 = ap (λ (t : Bool). cond {A = ℕ} t 1 0) (ne_eqb r k ne) in let o = h.1 k in omega arith),
)
  where
    cond-one : (t : Bool) → cond {A = ℕ} t 1 0 ≤ 1
    cond-one true = omega arith
    cond-one false = omega arith
once-step s (Dec p b d k) m h = (names-step s (Dec p b d k) m h.0, λ j. let w = fewer-without k j s.names in let o = h.1 j in omega arith)
once-step s _ m h = cc

module _ (sys : System) (lanes : List (List Rec)) (now : Now) (leaves : LeavesWords sys lanes now) (count : length lanes ≡ 49) (room : Each (λ (l : List Rec). length l ≤ 1000001) lanes) where
  few : length (all_items lanes) ≤ 49000049
  few = let r = all-length 1000001 lanes room in omega arith

  pub pool-ascends : (p : ℕ) → IsTrue (is_pool sys p) → Ascends 0 (blocks_of sys p) (now.pool p).free
  pool-ascends p h = subst (λ (s : Pool). Ascends 0 (blocks_of sys p) s.free) (leaves.pool p h)
      (after-keeps (free_blocks (blocks_of sys p)) (λ (s : Pool). Ascends 0 (blocks_of sys p) s.free) (λ s i m a. pool-step (blocks_of sys p) s i.body m a) (ascends-up 0 (blocks_of sys p) (blocks_of sys p) (omega arith)) (hist (word.Pool p) (all_items lanes)) (leaves.law.pools p h).allowed)

  pub pool-count : (p : ℕ) → IsTrue (is_pool sys p) → (now.pool p).count ≤ 49000049
  pool-count p h =
      let k = leaves.law.pools p h in
      let c = ap (λ (s : Pool). s.count) (sym (leaves.pool p h)) ∙ (count-after (free_blocks (blocks_of sys p)) (free_blocks-counts (blocks_of sys p)) (hist (word.Pool p) (all_items lanes)) k.allowed ∙ length-hist (word.Pool p) (all_items lanes) k.numbers) in
      let t = total-length (word.Pool p) (all_items lanes) in let f = few in omega arith

  pub refs-count : (p b : ℕ) → IsTrue (is_block sys p b) → ((now.refs p b).count ≤ 49000049) × (length (now.refs p b).names ≤ (now.refs p b).count)
  refs-count p b h =
      let k = leaves.law.blocks p b h in
      let c = ap (λ (s : Refs). s.count) (sym (leaves.refs p b h)) ∙ (count-after references references-counts (hist (word.Block p b) (all_items lanes)) k.allowed ∙ length-hist (word.Block p b) (all_items lanes) k.numbers) in
      let t = total-length (word.Block p b) (all_items lanes) in let f = few in (
        omega arith,
        subst (λ (s : Refs). length s.names ≤ s.count) (leaves.refs p b h)
            (after-keeps references (λ (s : Refs). length s.names ≤ s.count) (λ s i m a. refs-step s i.body m a) (omega arith) (hist (word.Block p b) (all_items lanes)) k.allowed),
      )

  pub refs-named : (p b k : ℕ) → IsTrue (is_block sys p b) → 0 < many (λ r. eqb r k) (now.refs p b).names → k < (now.refs p b).count
  refs-named p b k h there = named-below (now.refs p b).count k (now.refs p b).names
      (subst (λ (s : Refs). Each (λ r. r < s.count) s.names) (leaves.refs p b h)
      (after-keeps references (λ (s : Refs). Each (λ r. r < s.count) s.names) (λ s i m a. names-step s i.body m a) tt (hist (word.Block p b) (all_items lanes)) (leaves.law.blocks p b h).allowed)) there

  -- the references of a block have different names
  pub refs-once : (p b : ℕ) → IsTrue (is_block sys p b) → Once (now.refs p b).names
  refs-once p b h = subst (λ (s : Refs). Once s.names) (leaves.refs p b h)
      (after-keeps references (λ (s : Refs). Each (λ r. r < s.count) s.names × Once s.names) (λ s i m a. once-step s i.body m a) (tt, λ k. omega arith) (hist (word.Block p b) (all_items lanes)) (leaves.law.blocks p b h).allowed).1

pub bits-below : (lo n : ℕ) (xs : List ℕ) → Ascends lo n xs → bits_value xs + 2 ^ lo ≤ 2 ^ n
bits-below lo n [] a = let p : 2 ^ lo ≤ 2 ^ n = pow_mono a in omega arith
bits-below lo n (x ∷ xs) a = let r = bits-below (x + 1) n xs a.2 in let p : 2 ^ lo ≤ 2 ^ x = pow_mono a.0 in let d : 2 ^ (x + 1) ≡ 2 ^ x * 2 = (let e : x + 1 ≡ suc x = omega arith in ap (λ z. 2 ^ z) e ∙ pow-suc 2 x) in omega arith

pub map-small : (n : ℕ) (xs : List ℕ) → n ≤ 32 → Ascends 0 n xs → bits_value xs < 4294967296
map-small n xs le a = let r = bits-below 0 n xs a in let p : 2 ^ n ≤ 2 ^ 32 = pow_mono le in omega arith

absent : (b lo n : ℕ) (xs : List ℕ) → b < lo → Ascends lo n xs → without_all b xs ≡ xs
absent b lo n [] l a = refl
absent b lo n (x ∷ xs) l a = let g = a.0 in rw (ne_eqb x b (λ e. omega arith)) (ap (λ ys. x ∷ ys) (absent b (x + 1) n xs (omega arith) a.2))

-- the least free block is taken out
pub bits-off : (b n : ℕ) (xs : List ℕ) → is_first b xs ≡ true → Ascends 0 n xs → bits_value (without_all b xs) + 2 ^ b ≡ bits_value xs
bits-off b n [] f a = cc
bits-off b n (x ∷ xs) f a = let e : x ≡ b = eqb-true x b f in rw (f, absent b (x + 1) n xs (omega arith) a.2) (let p = ap (λ z. 2 ^ z) e in omega arith)

-- a block that isn't free is put in
pub bits-on : (b lo n : ℕ) (xs : List ℕ) → has xs b ≡ false → bits_value (with_number b xs) ≡ bits_value xs + 2 ^ b
bits-on b lo n [] h = omega arith
bits-on b lo n (x ∷ xs) h = go (bits-on b lo n xs) (nat_lt b x) (b == x) refl refl (eqb x b) refl h
  where
    go : (has xs b ≡ false → bits_value (with_number b xs) ≡ bits_value xs + 2 ^ b) → (s t : Bool) → nat_lt b x ≡ s → (b == x) ≡ t → (u : Bool) → eqb x b ≡ u → (u || has xs b) ≡ false → bits_value (cond s (b ∷ x ∷ xs) (cond t (x ∷ xs) (x ∷ with_number b xs))) ≡ bits_value (x ∷ xs) + 2 ^ b
    go rest s t e f true g k = cc
    go rest true t e f false g k = omega arith
    go rest false true e f false g k = let d : b ≡ x = eqb-true b x f in let c : eqb x b ≡ true = eq-eqb x b (sym d) in cc
    go rest false false e f false g k = let r = rest k in omega arith

-- the free blocks after one was taken out, or put in
pub has-without : (b c : ℕ) (xs : List ℕ) → has (without_all b xs) c ≡ (has xs c && not (eqb b c))
has-without b c [] = refl
has-without b c (x ∷ xs) = go (x == b) refl (has-without b c xs)
  where
    drop : (s t u : Bool) → s ≡ u → (t && not u) ≡ ((s || t) && not u)
    drop true t true e = refl2 t
      where
        refl2 : (t : Bool) → (t && false) ≡ false
        refl2 true = refl
        refl2 false = refl
    drop false t false e = refl
    drop true t false e = cc
    drop false t true e = cc

    keep : (s t u : Bool) → (s ≡ true → u ≡ false) → (s || (t && not u)) ≡ ((s || t) && not u)
    keep true t u n = rw (n refl) refl
    keep false t u n = refl

    go : (t : Bool) → (x == b) ≡ t → has (without_all b xs) c ≡ (has xs c && not (eqb b c)) → has (cond t (without_all b xs) (x ∷ without_all b xs)) c ≡ ((eqb x c || has xs c) && not (eqb b c))
    go true e r = r ∙ drop (eqb x c) (has xs c) (eqb b c) (ap (λ z. eqb z c) (eqb-true x b e))
    go false e r = ap (λ z. eqb x c || z) r ∙ keep (eqb x c) (has xs c) (eqb b c) (λ s. ne_eqb b c (λ d. let q : eqb x b ≡ true = eq-eqb x b (eqb-true x c s ∙ sym d) in let z : true ≡ false = sym q ∙ e in absurd (true≢false z)))

or-comm : (a b c : Bool) → (a || (b || c)) ≡ (b || (a || c))
or-comm true true c = refl
or-comm true false c = refl
or-comm false b c = refl

pub has-with : (b c : ℕ) (xs : List ℕ) → has (with_number b xs) c ≡ (eqb b c || has xs c)
has-with b c [] = refl
has-with b c (x ∷ xs) = go (nat_lt b x) (b == x) refl (has-with b c xs)
  where
    same : (s t : Bool) → (s || t) ≡ (s || (s || t))
    same true t = refl
    same false t = refl

    go : (s t : Bool) → (b == x) ≡ t → has (with_number b xs) c ≡ (eqb b c || has xs c) → has (cond s (b ∷ x ∷ xs) (cond t (x ∷ xs) (x ∷ with_number b xs))) c ≡ (eqb b c || (eqb x c || has xs c))
    go true t e r = refl
    go false true e r = same (eqb x c) (has xs c) ∙ ap (λ z. eqb z c || (eqb x c || has xs c)) (sym (eqb-true b x e))
    go false false e r = ap (λ z. eqb x c || z) r ∙ or-comm (eqb x c) (eqb b c) (has xs c)
