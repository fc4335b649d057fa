-- The cell of a post.
use Rattle.std.proofs.Common.{◌≡◌, ℕ, ◌+◌, ◌-◌, ◌*◌, ◌%◌, ◌<◌, ◌&&◌, List, [], ◌∷◌, ◌++◌, Bool, true, false, cond, refl, sym, ap, subst, ◌∙◌, arith, eq-eqb, Option, Some, None}
use Rattle.qp_model.specs.declared.systems.System.{System}
use Rattle.qp_model.specs.declared.bodies.Entry.{Entry}
use Rattle.qp_model.specs.Sites.{ring_of}
use Rattle.qp_table.specs.Counting.{many}
use Rattle.qp_table.specs.Rule.{queue_at, mark_in, is_place, on_queue}
use Rattle.qp_table.specs.After.{place}
use Rattle.qp_table.specs.QueueLaws.{f_in, l_in, m_in, cells_of}
use Rattle.qp_table.specs.declared.view.CellPlace.{CellPlace}
use Rattle.qp_table.specs.declared.view.View.{View}
use Rattle.qp_table.proofs.Counting.{many-snoc}
use Rattle.qp_table.specs.Asked.{older, oldest, IsOldest}
use Rattle.qp_table.specs.Told.{before_front}
use Rattle.qp_shared_loops.specs.Ends.{Claims, PutsFirst}

pub place-here : (a j : ℕ) (e : Entry) (k : ℕ) → cond {A = ℕ} (is_place a j e (place a j e k)) 1 0 ≡ 1
place-here a j e k = λ i. cond {A = ℕ} ((eq-eqb a a refl i && eq-eqb j j refl i) && ((eq-eqb e.pool e.pool refl i && eq-eqb e.block e.block refl i) && eq-eqb e.name e.name refl i)) 1 0

place-there : (a j : ℕ) (e : Entry) (k : ℕ) (xs : List CellPlace) → 0 < many (is_place a j e) (xs ++ place a j e k ∷ [])
place-there a j e k xs = let m = many-snoc (is_place a j e) xs (place a j e k) in let one = place-here a j e k in omega arith

-- a claim behind none on its queue is the oldest
none-older : (a : ℕ) (xs : List CellPlace) (p : CellPlace) → many (on_queue a) xs ≡ 0 → on_queue a p ≡ true → oldest a (xs ++ p ∷ []) ≡ Some p
none-older a [] p none here = ap (λ (t : Bool). cond {A = Option CellPlace} t (Some p) None) here
none-older a (x ∷ xs) p none here = go (on_queue a x) none (none-older a xs p)
  where
    go : (t : Bool) → cond {A = ℕ} t 1 0 + many (on_queue a) xs ≡ 0 → (many (on_queue a) xs ≡ 0 → on_queue a p ≡ true → oldest a (xs ++ p ∷ []) ≡ Some p)
        → cond {A = Option CellPlace} t (Some (older x (oldest a (xs ++ p ∷ [])))) (oldest a (xs ++ p ∷ [])) ≡ Some p
    go true h rest = absurd (omega arith)
    go false h rest = rest (omega arith) here

oldest-there : (a j i k : ℕ) (e : Entry) (xs : List CellPlace) → j ≡ i → many (on_queue a) xs ≡ 0 → IsOldest a j e (xs ++ place a i e k ∷ [])
oldest-there a j i k e xs is none = subst (λ n. IsOldest a n e (xs ++ place a i e k ∷ [])) (sym is) (k, none-older a xs (place a i e k) none (eq-eqb a a refl))

module _ (sys : System) (a o : ℕ) (margin : Option ℕ) (e : Entry) (v : View) (x : ℕ) (z : View) (c : Claims sys a o margin e v x z) where
  pub claim-oldest : (j : ℕ) → j ≡ f_in x % (ring_of sys a + 1) → many (on_queue a) v.claims ≡ 0 → IsOldest a j e z.claims
  claim-oldest j is none = subst (λ (y : View). IsOldest a j e y.claims) (sym c.is) (oldest-there a j (f_in x % (ring_of sys a + 1)) (mark_in (queue_at a) (x + 1)) e v.claims is none)

  pub claim-there : (j : ℕ) → j ≡ f_in x % (ring_of sys a + 1) → 0 < many (is_place a j e) z.claims
  claim-there j is = subst (λ (y : View). 0 < many (is_place a j e) y.claims) (sym c.is) (subst (λ i. 0 < many (is_place a i e) (v.claims ++ place a (f_in x % (ring_of sys a + 1)) e (mark_in (queue_at a) (x + 1)) ∷ [])) (sym is) (place-there a (f_in x % (ring_of sys a + 1)) e (mark_in (queue_at a) (x + 1)) v.claims))

-- the cell before the front, by a function's numbers
before-is : (sys : System) (a ring x j : ℕ) → ring ≡ ring_of sys a → j ≡ (m_in x + ring * l_in x + ring) % (ring + 1) → j ≡ before_front sys a x
before-is sys a ring x j ring_is is = is ∙ (λ i. (m_in x + back i * l_in x + back i) % (ring_is i + 1))
  where
    back : ring ≡ cells_of sys a - 1
    back = let e = ring_is in omega arith

module _ (sys : System) (a : ℕ) (e : Entry) (v : View) (x : ℕ) (z : View) (c : PutsFirst sys a e v x z) (ring j : ℕ) (ring_is : ring ≡ ring_of sys a) (j_is : j ≡ (m_in x + ring * l_in x + ring) % (ring + 1)) where
  pub first-there : 0 < many (is_place a j e) z.claims
  first-there = subst (λ (y : View). 0 < many (is_place a j e) y.claims) (sym c.is) (subst (λ i. 0 < many (is_place a i e) (v.claims ++ place a (before_front sys a x) e (mark_in (queue_at a) (x + 2097152)) ∷ [])) (sym (before-is sys a ring x j ring_is j_is)) (place-there a (before_front sys a x) e (mark_in (queue_at a) (x + 2097152)) v.claims))

  pub first-oldest : many (on_queue a) v.claims ≡ 0 → IsOldest a j e z.claims
  first-oldest none = subst (λ (y : View). IsOldest a j e y.claims) (sym c.is) (oldest-there a j (before_front sys a x) (mark_in (queue_at a) (x + 2097152)) e v.claims (before-is sys a ring x j ring_is j_is) none)
