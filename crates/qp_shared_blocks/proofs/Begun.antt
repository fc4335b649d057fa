-- Gives, as they are begun, finished and ended: between calls none is unfinished, and each fresh block has one.
use Rattle.std.proofs.Common.{◌≡◌, ℕ, ◌+◌, ◌≤◌, ◌<◌, ◌&&◌, ◌||◌, List, [], ◌∷◌, ◌++◌, Bool, true, false, not, cond, refl, ap, sym, ◌∙◌, arith, eqb, eqb-true, eq-eqb}
use Rattle.std.specs.List.{list_any}
use Rattle.std.proofs.lemmas.Bool.{and_from, and_parts}
use Rattle.qp_table.specs.Counting.{many, without}
use Rattle.qp_table.specs.Rule.{is_spot, gives_of}
use Rattle.qp_table.specs.After.{spot, begun_give, reading}
use Rattle.qp_table.specs.declared.view.Fill.{Fill}
use Rattle.qp_table.specs.declared.view.PendingGive.{PendingGive}
use Rattle.qp_table.specs.declared.view.Spot.{Spot}
use Rattle.qp_table.specs.declared.view.View.{View}
use Rattle.qp_table.proofs.Counting.{many-snoc, many-without}
use Rattle.qp_table.specs.Asked.{is_unfinished, is_begun}
use Rattle.qp_shared_lane.specs.Holds.{IsStill}

or-rest : (b r : Bool) → (b || r) ≡ false → r ≡ false
or-rest true r h = absurd (cc)
or-rest false r h = h

or-both : (b r s : Bool) → (b || r) ≡ false → (r ≡ false → s ≡ false) → (b || s) ≡ false
or-both true r s h k = absurd (cc)
or-both false r s h k = k h

module _ {A : Type 0} (p q : A → Bool) where
  pub any-without : (xs : List A) → list_any q xs ≡ false → list_any q (without p xs) ≡ false
  any-without [] h = h
  any-without (x ∷ xs) h = go (p x) (any-without xs)
    where
      go : (t : Bool) → (list_any q xs ≡ false → list_any q (without p xs) ≡ false) → list_any q (cond t xs (x ∷ without p xs)) ≡ false
      go true rest = or-rest (q x) (list_any q xs) h
      go false rest = or-both (q x) (list_any q xs) (list_any q (without p xs)) h rest

  -- at most one that passes is taken out
  many-left : (b : Bool) → ((x : A) → p x ≡ true → q x ≡ true → b ≡ true) → (xs : List A) → many q xs ≤ many q (without p xs) + cond b 1 0
  many-left b both [] = omega arith
  many-left b both (x ∷ xs) = go (p x) (q x) refl refl (many-left b both xs)
    where
      go : (t u : Bool) → p x ≡ t → q x ≡ u → many q xs ≤ many q (without p xs) + cond b 1 0 → cond u 1 0 + many q xs ≤ many q (cond t xs (x ∷ without p xs)) + cond b 1 0
      go true true e f rest = let one : cond {A = ℕ} b 1 0 ≡ 1 = ap (λ (t : Bool). cond {A = ℕ} t 1 0) (both x e f) in omega arith
      go true false e f rest = omega arith
      go false u e f rest = let here : cond {A = ℕ} (q x) 1 0 ≡ cond u 1 0 = ap (λ (t : Bool). cond {A = ℕ} t 1 0) f in omega arith

-- The first reference: the give of its block is ended.

pub spot-same : (q c p b : ℕ) (x : Spot) → is_spot p b x ≡ true → is_spot q c x ≡ (eqb p q && eqb b c)
spot-same q c p b x h = let z = and_parts (eqb x.pool p) (eqb x.block b) h in (λ i. eqb (eqb-true x.pool p z.0 i) q && eqb (eqb-true x.block b z.1 i) c)

give-same : (q c p b : ℕ) (x : PendingGive) → gives_of p b x ≡ true → is_begun q c x ≡ true → (eqb p q && eqb b c) ≡ true
give-same q c p b x h begun =
    let z = and_parts (eqb x.pool p) (eqb x.block b) h in let y = and_parts (gives_of q c x) x.read begun in
    (λ i. eqb (sym (eqb-true x.pool p z.0) i) q && eqb (sym (eqb-true x.block b z.1) i) c) ∙ y.0

pub still-first : (p b : ℕ) (v u : View) → u.fills ≡ v.fills → u.claims ≡ v.claims → u.takes ≡ v.takes → u.gives ≡ without (gives_of p b) v.gives → u.fresh ≡ without (is_spot p b) v.fresh → 0 < many (is_spot p b) v.fresh → IsStill v → IsStill u
still-first p b v u fills claims takes gives fresh mine s = record {
  fills = fills ∙ s.fills;
  claims = claims ∙ s.claims;
  takes = takes ∙ s.takes;
  done = (λ i. list_any (is_unfinished (fills i)) (gives i)) ∙ any-without (gives_of p b) (is_unfinished v.fills) v.gives s.done;
  begun = λ q c.
      let f = ap (many (is_spot q c)) fresh in let g = ap (many (is_begun q c)) gives in let n = s.begun q c in
      let x = many-without (is_spot p b) (is_spot q c) (eqb p q && eqb b c) (λ x e. spot-same q c p b x e) v.fresh mine in
      let y = many-left (gives_of p b) (is_begun q c) (eqb p q && eqb b c) (λ x e h. give-same q c p b x e h) v.gives in omega arith;
}

-- A give: it is begun, its words are written, and the beginning of the life is read.

module _ (p b : ℕ) (event : List ℕ) where
  here : gives_of p b (begun_give p b event) ≡ true
  here = and_from (eqb p p) (eqb b b) (eq-eqb p p refl) (eq-eqb b b refl)

  read-step : (t r x y : Bool) → ((not r || false) || x) ≡ false → (x ≡ false → y ≡ false) → ((not (cond t true r) || false) || y) ≡ false
  read-step true true x y h k = k h
  read-step false true x y h k = k h
  read-step t false x y h k = absurd (cc)

  pub all-done : (gs : List PendingGive) → list_any (is_unfinished []) gs ≡ false → list_any (is_unfinished []) (reading p b (gs ++ begun_give p b event ∷ [])) ≡ false
  all-done [] h = ap (λ (t : Bool). (not (cond t true false) || false) || false) here
  all-done (g ∷ gs) h = read-step (gives_of p b g) g.read (list_any (is_unfinished []) gs) (list_any (is_unfinished []) (reading p b (gs ++ begun_give p b event ∷ []))) h (all-done gs)

  module _ (q c : ℕ) where
    read-more : (a t r : Bool) → cond {A = ℕ} (a && r) 1 0 ≤ cond (a && cond t true r) 1 0
    read-more true true true = omega arith
    read-more true true false = omega arith
    read-more true false r = omega arith
    read-more false t r = omega arith

    and-on : (x : Bool) → (x && true) ≡ x
    and-on true = refl
    and-on false = refl

    one-more : (gs : List PendingGive) → many (is_begun q c) gs + cond (eqb p q && eqb b c) 1 0 ≤ many (is_begun q c) (reading p b (gs ++ begun_give p b event ∷ []))
    one-more [] = let one : cond {A = ℕ} ((eqb p q && eqb b c) && cond (gives_of p b (begun_give p b event)) true false) 1 0 ≡ cond (eqb p q && eqb b c) 1 0 = ap (λ (t : Bool). cond {A = ℕ} ((eqb p q && eqb b c) && cond t true false) 1 0) here ∙ ap (λ (t : Bool). cond {A = ℕ} t 1 0) (and-on (eqb p q && eqb b c)) in omega arith
    one-more (g ∷ gs) = let r = one-more gs in let m = read-more (gives_of q c g) (gives_of p b g) g.read in omega arith

  -- the give that was begun last
  pub given-begun : (v u : View) → u.gives ≡ reading p b (v.gives ++ begun_give p b event ∷ []) → 0 < many (is_begun p b) u.gives
  given-begun v u gives =
      let g = ap (many (is_begun p b)) gives in let y = one-more p b v.gives in
      let one : cond {A = ℕ} (eqb p p && eqb b b) 1 0 ≡ 1 = ap (λ (t : Bool). cond {A = ℕ} t 1 0) here in omega arith

  pub still-given : (from : ℕ) (v u : View) → u.fills ≡ [] → u.claims ≡ v.claims → u.takes ≡ v.takes → u.gives ≡ reading p b (v.gives ++ begun_give p b event ∷ []) → u.fresh ≡ v.fresh ++ spot p b from ∷ [] → IsStill v → IsStill u
  still-given from v u fills claims takes gives fresh s = record {
    fills = fills;
    claims = claims ∙ s.claims;
    takes = takes ∙ s.takes;
    done = (λ i. list_any (is_unfinished (fills i)) (gives i)) ∙ all-done v.gives (ap (λ (fs : List Fill). list_any (is_unfinished fs) v.gives) (sym s.fills) ∙ s.done);
    begun = λ q c.
        let f = ap (many (is_spot q c)) fresh in let g = ap (many (is_begun q c)) gives in let n = s.begun q c in
        let x = many-snoc (is_spot q c) v.fresh (spot p b from) in let y = one-more q c v.gives in omega arith;
  }
