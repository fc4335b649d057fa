-- Where the blocks and references stand, after a step of one view.
use Rattle.std.proofs.Common.{◌≡◌, ℕ, ◌+◌, ◌<◌, ◌≤◌, ◌≢◌, ◌⊎◌, List, [], ◌∷◌, ◌++◌, Bool, true, false, cond, ◌&&◌, ◌||◌, length, set, refl, sym, ap, subst, ◌∙◌, inl, inr, arith, eqb, eq-eqb, ne_eqb, eqb-true}
use mathlib.Core.Option.{some}
use mathlib.Core.Logic.{dite}
use native.Mathlib.Decide.{ℕ_discrete}
use lib.ListN.{get_elem?}
use Rattle.std.proofs.lemmas.Bool.{and_parts, and_right}
use Rattle.qp_chart.specs.StateTree.{has}
use Rattle.qp_model.specs.declared.bodies.Entry.{Entry}
use Rattle.qp_model.specs.declared.systems.System.{System}
use Rattle.qp_model.specs.Lists.{without_one}
use Rattle.qp_model.specs.Lives.{is_empty}
use Rattle.qp_model.specs.WordLaw.{is_block}
use Rattle.qp_table.specs.Counting.{Each, many, without}
use Rattle.qp_table.specs.Now.{Now}
use Rattle.qp_table.specs.Rule.{is_spot, is_spot_at, is_ref, free_bit, lives, spots, spots_at, in_lines, Tokens}
use Rattle.qp_table.specs.After.{spot, ref}
use Rattle.qp_table.specs.declared.view.Spot.{Spot}
use Rattle.qp_table.specs.declared.view.View.{View}
use Rattle.qp_table.proofs.Counting.{total-set, total-at, many-snoc, many-without, cond-le}

abbrev pub b2n : Bool → ℕ
b2n b = cond b 1 0

module _ (sys : System) (views : List View) (now next : Now) (id : ℕ) (v u : View) (at_id : get_elem? views id ≡ some v) (tokens : Tokens sys views now) where
  -- The step keeps the sums where it keeps them in its own view
  pub tokens-set : ((p b : ℕ) → free_bit next p b + many (is_spot p b) u.fresh + many (is_spot p b) u.used + lives (next.refs p b).names ≡ free_bit now p b + many (is_spot p b) v.fresh + many (is_spot p b) v.used + lives (now.refs p b).names)
      → ((p b k : ℕ) → 0 < p → many (is_ref p b k) u.hands + in_lines next p b k + many (λ r. eqb r k) (now.refs p b).names ≡ many (is_ref p b k) v.hands + in_lines now p b k + many (λ r. eqb r k) (next.refs p b).names)
      → ((p b n : ℕ) → 0 < spots_at (λ z. z.fresh) (set views id u) p b n → (next.edge p b ≡ n) × ((next.refs p b).count ≡ n))
      → ((p b n : ℕ) → 0 < spots_at (λ z. z.used) (set views id u) p b n → (next.edge p b < n) × ((next.refs p b).count ≡ n))
      → ((p b : ℕ) → Each (λ r. next.edge p b ≤ r) (next.refs p b).names)
      → Tokens sys (set views id u) next
  tokens-set placed held begun worn named = record {
    place = λ p b. let f = total-set (λ (z : View). many (is_spot p b) z.fresh) views id v u at_id in let g = total-set (λ (z : View). many (is_spot p b) z.used) views id v u at_id in let x = placed p b in let t = tokens.place p b in omega arith;
    hand = λ p b k l. let f = total-set (λ (z : View). many (is_ref p b k) z.hands) views id v u at_id in let x = held p b k l in let t = tokens.hand p b k l in omega arith;
    begun = begun;
    worn = worn;
    named = named;
  }

  -- the sums of the fresh and used blocks after it
  pub fresh-after : (p b : ℕ) → spots (λ z. z.fresh) (set views id u) p b + many (is_spot p b) v.fresh ≡ spots (λ z. z.fresh) views p b + many (is_spot p b) u.fresh
  fresh-after p b = total-set (λ (z : View). many (is_spot p b) z.fresh) views id v u at_id

  pub used-after-set : (p b : ℕ) → spots (λ z. z.used) (set views id u) p b + many (is_spot p b) v.used ≡ spots (λ z. z.used) views p b + many (is_spot p b) u.used
  used-after-set p b = total-set (λ (z : View). many (is_spot p b) z.used) views id v u at_id

  pub fresh-at : (p b n : ℕ) → spots_at (λ z. z.fresh) (set views id u) p b n + many (is_spot_at p b n) v.fresh ≡ spots_at (λ z. z.fresh) views p b n + many (is_spot_at p b n) u.fresh
  fresh-at p b n = total-set (λ (z : View). many (is_spot_at p b n) z.fresh) views id v u at_id

  pub used-at : (p b n : ℕ) → spots_at (λ z. z.used) (set views id u) p b n + many (is_spot_at p b n) v.used ≡ spots_at (λ z. z.used) views p b n + many (is_spot_at p b n) u.used
  used-at p b n = total-set (λ (z : View). many (is_spot_at p b n) z.used) views id v u at_id

  -- where the view's fresh and used blocks stay, and of each block its operations and its life
  pub begun-kept : u.fresh ≡ v.fresh → ((p b : ℕ) → next.edge p b ≡ now.edge p b) → ((p b : ℕ) → (next.refs p b).count ≡ (now.refs p b).count)
      → (p b n : ℕ) → 0 < spots_at (λ z. z.fresh) (set views id u) p b n → (next.edge p b ≡ n) × ((next.refs p b).count ≡ n)
  begun-kept fresh edge count p b n h = let o = tokens.begun p b n (let f = fresh-at p b n in let e = ap (many (is_spot_at p b n)) fresh in omega arith) in (edge p b ∙ o.0, count p b ∙ o.1)

  pub worn-kept : u.used ≡ v.used → ((p b : ℕ) → next.edge p b ≡ now.edge p b) → ((p b : ℕ) → (next.refs p b).count ≡ (now.refs p b).count)
      → (p b n : ℕ) → 0 < spots_at (λ z. z.used) (set views id u) p b n → (next.edge p b < n) × ((next.refs p b).count ≡ n)
  worn-kept used edge count p b n h = let o = tokens.worn p b n (let f = used-at p b n in let e = ap (many (is_spot_at p b n)) used in omega arith) in (rw (edge p b) o.0, count p b ∙ o.1)

-- what the sums say of one block, for the view that holds it
module _ (sys : System) (views : List View) (now : Now) (id : ℕ) (v : View) (at_id : get_elem? views id ≡ some v) (tokens : Tokens sys views now) (p b : ℕ) where
  block-le : cond {A = ℕ} (is_block sys p b) 1 0 ≤ 1
  block-le = cond-le (is_block sys p b)

  is-block-case : (t : Bool) → is_block sys p b ≡ t → cond {A = ℕ} t 1 0 ≡ 1 → is_block sys p b ≡ true
  is-block-case true e z = e
  is-block-case false e z = absurd (omega arith)

  free-case : (t : Bool) → has (now.pool p).free b ≡ t → cond {A = ℕ} t 1 0 ≡ 0 → has (now.pool p).free b ≡ false
  free-case true e z = absurd (omega arith)
  free-case false e z = e

  exists : cond {A = ℕ} (is_block sys p b) 1 0 ≡ 1 → is_block sys p b ≡ true
  exists e = is-block-case (is_block sys p b) refl e

  taken : free_bit now p b ≡ 0 → has (now.pool p).free b ≡ false
  taken e = free-case (has (now.pool p).free b) refl e

  pub fresh-alone : 0 < many (is_spot p b) v.fresh → (is_block sys p b ≡ true) × (has (now.pool p).free b ≡ false) × (lives (now.refs p b).names ≡ 0) × (spots (λ z. z.used) views p b ≡ 0) × (spots (λ z. z.fresh) views p b ≡ 1)
  fresh-alone h = let f = total-at (λ (z : View). many (is_spot p b) z.fresh) views id v at_id in let t = tokens.place p b in let e = block-le in (exists (omega arith), taken (omega arith), omega arith, omega arith, omega arith)

  pub used-alone : 0 < many (is_spot p b) v.used → (is_block sys p b ≡ true) × (has (now.pool p).free b ≡ false) × (lives (now.refs p b).names ≡ 0) × (spots (λ z. z.fresh) views p b ≡ 0) × (spots (λ z. z.used) views p b ≡ 1)
  used-alone h = let f = total-at (λ (z : View). many (is_spot p b) z.used) views id v at_id in let t = tokens.place p b in let e = block-le in (exists (omega arith), taken (omega arith), omega arith, omega arith, omega arith)

  lives-some : (k : ℕ) (xs : List ℕ) → 0 < many (λ r. eqb r k) xs → lives xs ≡ 1
  lives-some k [] h = absurd (omega arith)
  lives-some k (x ∷ xs) h = refl

  lives-filled : (xs : List ℕ) → lives xs ≡ 1 → is_empty xs ≡ false
  lives-filled [] e = absurd (omega arith)
  lives-filled (x ∷ xs) e = refl

  -- a reference that stands, wherever
  pub standing : (k : ℕ) → 0 < many (λ r. eqb r k) (now.refs p b).names → (is_block sys p b ≡ true) × (has (now.pool p).free b ≡ false) × (is_empty (now.refs p b).names ≡ false) × (spots (λ z. z.fresh) views p b ≡ 0) × (spots (λ z. z.used) views p b ≡ 0)
  standing k h = let s = lives-some k (now.refs p b).names h in let t = tokens.place p b in let e = block-le in (exists (omega arith), taken (omega arith), lives-filled (now.refs p b).names s, omega arith, omega arith)

  pub held-stands : (k : ℕ) → 0 < p → 0 < many (is_ref p b k) v.hands → 0 < many (λ r. eqb r k) (now.refs p b).names
  held-stands k pos h = let f = total-at (λ (z : View). many (is_ref p b k) z.hands) views id v at_id in let t = tokens.hand p b k pos in omega arith

pub spot-is : (p b : ℕ) (x : Spot) → is_spot p b x ≡ true → (x.pool ≡ p) × (x.block ≡ b)
spot-is p b x e = let t = and_parts (eqb x.pool p) (eqb x.block b) e in (eqb-true x.pool p t.0, eqb-true x.block b t.1)

pub ref-is : (p b k : ℕ) (x : Entry) → is_ref p b k x ≡ true → x ≡ ref p b k
ref-is p b k x e = let t = and_parts (eqb x.pool p && eqb x.block b) (eqb x.name k) e in let s = and_parts (eqb x.pool p) (eqb x.block b) t.0 in λ i. record { pool = eqb-true x.pool p s.0 i; block = eqb-true x.block b s.1 i; name = eqb-true x.name k t.1 i }

-- a spot of block b says what any of it says at another block
pub spot-same : (p b n q c : ℕ) (x : Spot) → is_spot p b x ≡ true → is_spot q c x ≡ is_spot q c (spot p b n)
spot-same p b n q c x e = let t = spot-is p b x e in λ i. eqb (t.0 i) q && eqb (t.1 i) c

-- a token with its number is one of the block
at-fewer : (p b n : ℕ) (x : Spot) → cond {A = ℕ} (is_spot_at p b n x) 1 0 ≤ cond (is_spot p b x) 1 0
at-fewer p b n x = go (is_spot p b x)
  where
    go : (t : Bool) → cond {A = ℕ} (t && eqb x.at n) 1 0 ≤ cond t 1 0
    go true = cond-le (eqb x.at n)
    go false = omega arith

pub at-le : (p b n : ℕ) (xs : List Spot) → many (is_spot_at p b n) xs ≤ many (is_spot p b) xs
at-le p b n [] = omega arith
at-le p b n (x ∷ xs) = let a = at-fewer p b n x in let r = at-le p b n xs in omega arith

pub spots-le : (part : View → List Spot) (views : List View) (p b n : ℕ) → spots_at part views p b n ≤ spots part views p b
spots-le part [] p b n = omega arith
spots-le part (v ∷ vs) p b n = let a = at-le p b n (part v) in let r = spots-le part vs p b n in omega arith

-- a token of the block has a number
pub at-some : (p b : ℕ) (xs : List Spot) → 0 < many (is_spot p b) xs → (n : ℕ) × (0 < many (is_spot_at p b n) xs)
at-some p b [] h = absurd (omega arith)
at-some p b (x ∷ xs) h = go (is_spot p b x) refl (at-some p b xs) h
  where
    go : (t : Bool) → is_spot p b x ≡ t → (0 < many (is_spot p b) xs → (n : ℕ) × (0 < many (is_spot_at p b n) xs)) → 0 < cond t 1 0 + many (is_spot p b) xs → (n : ℕ) × (0 < many (is_spot_at p b n) (x ∷ xs))
    go true e r l = let one : cond {A = ℕ} (is_spot_at p b x.at x) 1 0 ≡ 1 = (λ i. cond {A = ℕ} (e i && eq-eqb x.at x.at refl i) 1 0) in (x.at, omega arith)
    go false e r l = let z = r (omega arith) in let z1 = z.1 in (z.0, omega arith)

-- the test of the changed one at another
pub spot-self : (p b n : ℕ) → is_spot p b (spot p b n) ≡ true
spot-self p b n = rw (eq-eqb p p refl, eq-eqb b b refl) refl

pub spot-at-self : (p b n m : ℕ) → is_spot_at p b m (spot p b n) ≡ eqb n m
spot-at-self p b n m = rw (eq-eqb p p refl, eq-eqb b b refl) refl

pub pair-else : (p b q c : ℕ) → (q ≢ p) ⊎ (c ≢ b) → (eqb p q && eqb b c) ≡ false
pair-else p b q c (inl n) = rw (ne_eqb p q (λ e. n (sym e))) refl
pair-else p b q c (inr n) = rw (ne_eqb b c (λ e. n (sym e)), (and_right (eqb p q) false refl)) refl

pub spot-else : (p b n q c : ℕ) → (q ≢ p) ⊎ (c ≢ b) → is_spot q c (spot p b n) ≡ false
spot-else p b n q c ne = pair-else p b q c ne

pub spot-at-else : (p b n q c m : ℕ) → (q ≢ p) ⊎ (c ≢ b) → is_spot_at q c m (spot p b n) ≡ false
spot-at-else p b n q c m ne = ap (λ t. t && eqb n m) (pair-else p b q c ne)

pub ref-here : (p b k j : ℕ) → is_ref p b j (ref p b k) ≡ eqb k j
ref-here p b k j = rw (eq-eqb p p refl, eq-eqb b b refl) refl

pub ref-else : (p b k q c j : ℕ) → (q ≢ p) ⊎ (c ≢ b) → is_ref q c j (ref p b k) ≡ false
ref-else p b k q c j n = ap (λ t. t && eqb k j) (pair-else p b q c n)

-- a block by itself, or another
pub each-two : (Q : ℕ → ℕ → Type 0) (p b : ℕ) → Q p b → ((q c : ℕ) → (q ≢ p) ⊎ (c ≢ b) → Q q c) → (q c : ℕ) → Q q c
each-two Q p b here else q c = dite (ℕ_discrete q p)
    (λ e. dite (ℕ_discrete c b) (λ d. subst (λ z. Q z c) (sym e) (subst (Q p) (sym d) here)) (λ n. else q c (inr n)))
    (λ n. else q c (inl n))

pub lives-counted : (xs : List ℕ) → lives xs + cond (eqb (length xs) 0) 1 0 ≡ 1
lives-counted [] = refl
lives-counted (x ∷ xs) = rw (ne_eqb (length (x ∷ xs)) 0 (λ e. absurd (omega arith))) refl

pub without-is : (k : ℕ) (xs : List ℕ) → without_one k xs ≡ without (λ r. eqb r k) xs
without-is k [] = refl
without-is k (x ∷ xs) = ap (λ ys. cond (eqb x k) xs (x ∷ ys)) (without-is k xs)

pub dec-many : (k j : ℕ) (xs : List ℕ) → 0 < many (λ r. eqb r k) xs → many (λ r. eqb r j) (without_one k xs) + cond (eqb k j) 1 0 ≡ many (λ r. eqb r j) xs
dec-many k j xs h = rw (without-is k xs) (many-without (λ r. eqb r k) (λ r. eqb r j) (eqb k j) (λ x e. ap (λ z. eqb z j) (eqb-true x k e)) xs h)

many-all : {A : Type 0} (xs : List A) → many (λ x. true) xs ≡ length xs
many-all [] = refl
many-all (x ∷ xs) = let s = many-all xs in omega arith

pub dec-length : (k : ℕ) (xs : List ℕ) → 0 < many (λ r. eqb r k) xs → length (without_one k xs) + 1 ≡ length xs
dec-length k xs h = rw (without-is k xs) (let m = many-without (λ r. eqb r k) (λ r. true) true (λ x e. refl) xs h in let a = many-all (without (λ r. eqb r k) xs) in let c = many-all xs in omega arith)

pub many-has : (k : ℕ) (xs : List ℕ) → 0 < many (λ r. eqb r k) xs → has xs k ≡ true
many-has k [] h = absurd (omega arith)
many-has k (x ∷ xs) h = go (eqb x k) (many-has k xs) h
  where
    go : (t : Bool) → (0 < many (λ r. eqb r k) xs → has xs k ≡ true) → 0 < cond t 1 0 + many (λ r. eqb r k) xs → (t || has xs k) ≡ true
    go true r l = refl
    go false r l = r (omega arith)

pub used-more : (t : Bool) (used : List Spot) (p b n : ℕ) (test : Spot → Bool) → many test (cond t (used ++ spot p b n ∷ []) used) ≡ many test used + cond (test (spot p b n)) (cond t 1 0) 0
used-more true used p b n test = many-snoc test used (spot p b n)
used-more false used p b n test = go (test (spot p b n))
  where
    go : (t : Bool) → many test used ≡ many test used + cond t 0 0
    go true = omega arith
    go false = omega arith

-- of what stands above a number, all stands above it still where one is taken out
pub above-without : (n k : ℕ) (xs : List ℕ) → Each (λ r. n ≤ r) xs → Each (λ r. n ≤ r) (without_one k xs)
above-without n k [] e = tt
above-without n k (x ∷ xs) e = go (eqb x k) (above-without n k xs e.1)
  where
    go : (t : Bool) → Each (λ r. n ≤ r) (without_one k xs) → Each (λ r. n ≤ r) (cond t xs (x ∷ without_one k xs))
    go true h = e.1
    go false h = (e.0, h)

pub above-none : (n : ℕ) (xs : List ℕ) → lives xs ≡ 0 → Each (λ r. n ≤ r) xs
above-none n [] e = tt
above-none n (x ∷ xs) e = absurd (omega arith)

-- each of the block's references at its edge or above it
pub above-at : (n k : ℕ) (xs : List ℕ) → Each (λ r. n ≤ r) xs → 0 < many (λ r. eqb r k) xs → n ≤ k
above-at n k [] e h = absurd (omega arith)
above-at n k (x ∷ xs) e h = go (eqb x k) refl (above-at n k xs e.1) h
  where
    go : (t : Bool) → eqb x k ≡ t → (0 < many (λ r. eqb r k) xs → n ≤ k) → 0 < cond t 1 0 + many (λ r. eqb r k) xs → n ≤ k
    go true is rest l = let z = eqb-true x k is in let y = e.0 in omega arith
    go false is rest l = rest (omega arith)
