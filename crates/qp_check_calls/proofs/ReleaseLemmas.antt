-- What is read of references that are made and dropped.
use Rattle.std.proofs.Common.{◌≡◌, ◌↔◌, ℕ, zero, suc, ◌+◌, ◌==◌, true, ◌&&◌, List, [], ◌∷◌, ◌++◌, Some, refl, sym, ◌∙◌, ap, subst, inl, inr, arith, append-nil}
use Rattle.std.proofs.lemmas.Bool.Decides.{nat_tests}
use Rattle.std.specs.declared.option.Option.{Option}
use Rattle.qp_model.specs.declared.systems.System.{System}
use Rattle.qp_model.specs.declared.bodies.Entry.{Entry}
use Rattle.qp_model.specs.declared.bodies.Body.{Body}
use Rattle.qp_model.specs.declared.bodies.Body.TheVariants as item
use Rattle.qp_model.specs.Record.{entry}
use Rattle.qp_model.specs.Told.{Told, Known, Nothing, Left, plain, dropped}
use Rattle.qp_model.specs.Calls.{Answer}
use Rattle.qp_model.specs.Shapes.{Drops, Releases, releases_by, MakesAgain, again_by}
use Rattle.qp_model.proofs.LineLemmas.{same_number}
use Rattle.qp_check_calls.specs.CallState as stages
use Rattle.qp_check_calls.specs.CallState.{Behind, Ends, Goal, CallStage, Refers, Puts, Returns, Whole}
use Rattle.qp_check_calls.specs.CallStateNext.{stage_next, list_after, refer_next, return_next, drop_next, left_over, goes_on, released, again, by_pool}
use Rattle.qp_check_calls.proofs.ReadLemmas.{At, at-step, at-stepped, at-ended, at-whole}
use Rattle.qp_model.proofs.RecordLemmas.{told-is}
use Rattle.qp_check_calls.proofs.StageLemmas.{only-passed}

module _ (sys : System) (o : ℕ) (now : Option Entry) (kept : List Entry) (a : Answer) (k : List Entry) where
  -- a reference is made
  pub at-refers : (p b : ℕ) (goal : Goal) (g : List Told)
      → At sys o now kept (Refers p b goal) a k g
      ↔ ((r : ℕ) × (rest : List Told) × (g ≡ plain (item.Inc p b r) ∷ rest) × At sys o now kept (Puts goal (entry p b r)) a k rest)
  unfolding stage_next
  at-refers p b goal g = (out g, λ h. rw h.2 (into h.0 h.1 h.3))
    where
      by : (t : Told) (g : List Told) (body : Body) (known : Known) → t.body ≡ body → t.known ≡ known → (next : CallStage)
          → refer_next p b goal body known ≡ Some next → At sys o now (list_after kept body) next a k g
          → (r : ℕ) × (rest : List Told) × (t ∷ g ≡ plain (item.Inc p b r) ∷ rest) × At sys o now kept (Puts goal (entry p b r)) a k rest
      by t g (item.Inc q c r) Nothing is_body is_known next is more =
          let passed = only-passed ((q == p) && (c == b)) _ _ is in
          let test : ((q == p) && (c == b)) ≡ true = passed.0 in
          let e1 : q ≡ p = grind (arith, nat_tests) in
          let e2 : c ≡ b = grind (arith, nat_tests) in
          let whole : t ≡ plain (item.Inc q c r) = told-is t _ _ is_body is_known in
          (r, g, cc, subst (λ s. At sys o now kept s a k g) (sym passed.1) more)
      by t g body known is_body is_known next is more = absurd (cc)

      out : (g : List Told) → At sys o now kept (Refers p b goal) a k g
          → (r : ℕ) × (rest : List Told) × (g ≡ plain (item.Inc p b r) ∷ rest) × At sys o now kept (Puts goal (entry p b r)) a k rest
      out [] h = absurd (cc ((at-ended sys o now kept (Refers p b goal) a k h).0))
      out (t ∷ g) h = let one = at-stepped sys o now kept (Refers p b goal) a k t g h in by t g t.body t.known refl refl one.0 one.1 one.2

      into : (r : ℕ) (rest : List Told) → At sys o now kept (Puts goal (entry p b r)) a k rest
          → At sys o now kept (Refers p b goal) a k (plain (item.Inc p b r) ∷ rest)
      into r rest h = at-step sys o now kept (Refers p b goal) (Puts goal (entry p b r)) a k _ rest (rw (same_number p, same_number b) refl) h

  -- a block comes back
  pub at-returns : (p b d : ℕ) (behind : Behind) (g : List Told)
      → At sys o now kept (Returns p b d behind) a k g
      ↔ ((n : ℕ) × (rest : List Told) × (g ≡ plain (item.Back p n b (d + 1)) ∷ rest) × At sys o now kept (goes_on kept behind) a k rest)
  unfolding stage_next
  at-returns p b d behind g = (out g, λ h. rw h.2 (into h.0 h.1 h.3))
    where
      by : (t : Told) (g : List Told) (body : Body) (known : Known) → t.body ≡ body → t.known ≡ known → (next : CallStage)
          → return_next kept p b d behind body known ≡ Some next → At sys o now (list_after kept body) next a k g
          → (n : ℕ) × (rest : List Told) × (t ∷ g ≡ plain (item.Back p n b (d + 1)) ∷ rest) × At sys o now kept (goes_on kept behind) a k rest
      by t g (item.Back q n c to) Nothing is_body is_known next is more =
          let passed = only-passed ((q == p) && (c == b) && (to == d + 1)) _ _ is in
          let test : ((q == p) && (c == b) && (to == d + 1)) ≡ true = passed.0 in
          let e1 : q ≡ p = grind (arith, nat_tests) in
          let e2 : c ≡ b = grind (arith, nat_tests) in
          let e3 : to ≡ d + 1 = grind (arith, nat_tests) in
          let whole : t ≡ plain (item.Back q n c to) = told-is t _ _ is_body is_known in
          (n, g, cc, subst (λ s. At sys o now kept s a k g) (sym passed.1) more)
      by t g body known is_body is_known next is more = absurd (cc)

      out : (g : List Told) → At sys o now kept (Returns p b d behind) a k g
          → (n : ℕ) × (rest : List Told) × (g ≡ plain (item.Back p n b (d + 1)) ∷ rest) × At sys o now kept (goes_on kept behind) a k rest
      out [] h = absurd (cc ((at-ended sys o now kept (Returns p b d behind) a k h).0))
      out (t ∷ g) h = let one = at-stepped sys o now kept (Returns p b d behind) a k t g h in by t g t.body t.known refl refl one.0 one.1 one.2

      into : (n : ℕ) (rest : List Told) → At sys o now kept (goes_on kept behind) a k rest
          → At sys o now kept (Returns p b d behind) a k (plain (item.Back p n b (d + 1)) ∷ rest)
      into n rest h = at-step sys o now kept (Returns p b d behind) (goes_on kept behind) a k _ rest (rw (same_number p, same_number b, same_number (d + 1)) refl) h

  -- a reference is dropped, and the block comes back exactly where none is left
  pub at-drops : (e : Entry) (behind : Behind) (g : List Told)
      → At sys o now kept (stages.Drops e behind) a k g
      ↔ ((rel rest : List Told) × Releases e.pool e.block e.name rel × (g ≡ rel ++ rest) × At sys o now kept (goes_on kept behind) a k rest)
  unfolding stage_next
  at-drops e behind g = (out g, λ h. into h.0 h.1 h.2 h.3 h.4)
    where
      left_by : (t : Told) (g : List Told) (d left : ℕ) → t ≡ dropped e.pool e.block d e.name left → At sys o now kept (left_over kept e d behind left) a k g
          → (rel rest : List Told) × Releases e.pool e.block e.name rel × (t ∷ g ≡ rel ++ rest) × At sys o now kept (goes_on kept behind) a k rest
      left_by t g d zero is more =
          let back = (at-returns e.pool e.block d behind g).0 more in
          let more : g ≡ plain (item.Back e.pool back.0 e.block (d + 1)) ∷ back.1 = back.2 in
          (dropped e.pool e.block d e.name 0 ∷ plain (item.Back e.pool back.0 e.block (d + 1)) ∷ [], back.1, inr (d, back.0, refl), cc, back.3)
      left_by t g d (suc left) is more = (dropped e.pool e.block d e.name (suc left) ∷ [], g, inl (d, left, refl), cc, more)

      by : (t : Told) (g : List Told) (body : Body) (known : Known) → t.body ≡ body → t.known ≡ known → (next : CallStage)
          → drop_next kept e behind body known ≡ Some next → At sys o now (list_after kept body) next a k g
          → (rel rest : List Told) × Releases e.pool e.block e.name rel × (t ∷ g ≡ rel ++ rest) × At sys o now kept (goes_on kept behind) a k rest
      by t g (item.Dec p b d n) (Left left) is_body is_known next is more =
          let passed = only-passed ((p == e.pool) && (b == e.block) && (n == e.name)) _ _ is in
          let test : ((p == e.pool) && (b == e.block) && (n == e.name)) ≡ true = passed.0 in
          let e1 : p ≡ e.pool = grind (arith, nat_tests) in
          let e2 : b ≡ e.block = grind (arith, nat_tests) in
          let e3 : n ≡ e.name = grind (arith, nat_tests) in
          let whole : t ≡ dropped p b d n left = told-is t _ _ is_body is_known in
          left_by t g d left (cc) (subst (λ s. At sys o now kept s a k g) (sym passed.1) more)
      by t g body known is_body is_known next is more = absurd (cc)

      out : (g : List Told) → At sys o now kept (stages.Drops e behind) a k g
          → (rel rest : List Told) × Releases e.pool e.block e.name rel × (g ≡ rel ++ rest) × At sys o now kept (goes_on kept behind) a k rest
      out [] h = absurd (cc ((at-ended sys o now kept (stages.Drops e behind) a k h).0))
      out (t ∷ g) h = let one = at-stepped sys o now kept (stages.Drops e behind) a k t g h in by t g t.body t.known refl refl one.0 one.1 one.2

      into_one : (d left : ℕ) (g : List Told) → At sys o now kept (left_over kept e d behind left) a k g
          → At sys o now kept (stages.Drops e behind) a k (dropped e.pool e.block d e.name left ∷ g)
      into_one d left g h =
          at-step sys o now kept (stages.Drops e behind) (left_over kept e d behind left) a k _ g
          (rw (same_number e.pool, same_number e.block, same_number e.name) refl) h

      into : (rel rest : List Told) → Releases e.pool e.block e.name rel → g ≡ rel ++ rest → At sys o now kept (goes_on kept behind) a k rest
          → At sys o now kept (stages.Drops e behind) a k g
      into rel rest (inl r) is h = rw (is, r.2) (into_one r.0 (suc r.1) rest h)
      into rel rest (inr r) is h = rw (is, r.2) (into_one r.0 0 _ ((at-returns e.pool e.block r.0 behind _).1 (r.1, rest, refl, h)))

  -- the release of an entry
  pub at-released : (e : Entry) (behind : Behind) (g : List Told)
      → At sys o now kept (released e (goes_on kept behind) behind) a k g
      ↔ ((rel rest : List Told) × Drops e rel × (g ≡ rel ++ rest) × At sys o now kept (goes_on kept behind) a k rest)
  unfolding Drops releases_by
  at-released e behind g = by e.pool
    where
      by : (p : ℕ) → At sys o now kept (by_pool p (goes_on kept behind) (stages.Drops e behind)) a k g
          ↔ ((rel rest : List Told) × releases_by p e rel × (g ≡ rel ++ rest) × At sys o now kept (goes_on kept behind) a k rest)
      by zero = (λ h. ([], g, refl, refl, h), λ h. let same : g ≡ h.1 = h.3 ∙ ap (λ r. r ++ h.1) h.2 in subst (λ x. At sys o now kept (goes_on kept behind) a k x) (sym same) h.4)
      by (suc p) = at-drops e behind g

  -- a release that ends a call
  pub at-release : (e : Entry) (b : Answer) (g : List Told)
      → At sys o now kept (released e (Whole b) (Ends b)) a k g ↔ (Drops e g × (a ≡ b) × (k ≡ kept))
  at-release e b g = (λ h. out ((at-released e (Ends b) g).0 h), λ h. (at-released e (Ends b) g).1 (into h.0 h.1 h.2))
    where
      out : ((rel rest : List Told) × Drops e rel × (g ≡ rel ++ rest) × At sys o now kept (Whole b) a k rest) → Drops e g × (a ≡ b) × (k ≡ kept)
      out h =
          let last = (at-whole sys o now kept b a k h.1).0 h.4 in
          let same : g ≡ h.0 = h.3 ∙ ap (λ r. h.0 ++ r) last.0 ∙ append-nil h.0 in
          (subst (λ x. Drops e x) (sym same) h.2, last.1, last.2)

      into : Drops e g → a ≡ b → k ≡ kept → (rel rest : List Told) × Drops e rel × (g ≡ rel ++ rest) × At sys o now kept (Whole b) a k rest
      into h p q = (g, [], h, sym (append-nil g), (at-whole sys o now kept b a k []).1 (refl, p, q))

  -- another entry of an event
  pub at-again : (goal : Goal) (e : Entry) (g : List Told)
      → At sys o now kept (again goal e) a k g
      ↔ ((head : List Told) × (made : Entry) × (rest : List Told) × MakesAgain e head made × (g ≡ head ++ rest) × At sys o now kept (Puts goal made) a k rest)
  unfolding MakesAgain again_by
  at-again goal e g = by e.pool
    where
      by : (p : ℕ) → At sys o now kept (by_pool p (Puts goal e) (Refers e.pool e.block goal)) a k g
          ↔ ((head : List Told) × (made : Entry) × (rest : List Told) × again_by p e head made × (g ≡ head ++ rest) × At sys o now kept (Puts goal made) a k rest)
      by zero = (λ h. ([], e, g, (refl, refl), refl, h), λ h. into h.0 h.1 h.2 h.3.0 h.3.1 h.4 h.5)
        where
          into : (head : List Told) (made : Entry) (rest : List Told) → head ≡ [] → made ≡ e → g ≡ head ++ rest → At sys o now kept (Puts goal made) a k rest
              → At sys o now kept (Puts goal e) a k g
          into head made rest is same whole h =
              let all : rest ≡ g = sym (whole ∙ ap (λ r. r ++ rest) is) in
              subst (λ x. At sys o now kept (Puts goal e) a k x) all (subst (λ x. At sys o now kept (Puts goal x) a k rest) same h)
      by (suc p) = (λ h. out ((at-refers e.pool e.block goal g).0 h), λ h. (at-refers e.pool e.block goal g).1 (into h.0 h.1 h.2 h.3.0 h.3.1 h.3.2 h.4 h.5))
        where
          out : ((r : ℕ) × (rest : List Told) × (g ≡ plain (item.Inc e.pool e.block r) ∷ rest) × At sys o now kept (Puts goal (entry e.pool e.block r)) a k rest)
              → (head : List Told) × (made : Entry) × (rest : List Told) × again_by (suc p) e head made × (g ≡ head ++ rest) × At sys o now kept (Puts goal made) a k rest
          out h = (plain (item.Inc e.pool e.block h.0) ∷ [], entry e.pool e.block h.0, h.1, (h.0, refl, refl), h.2, h.3)

          into : (head : List Told) (made : Entry) (rest : List Told) (r : ℕ) → head ≡ plain (item.Inc e.pool e.block r) ∷ [] → made ≡ entry e.pool e.block r → g ≡ head ++ rest
              → At sys o now kept (Puts goal made) a k rest
              → (r : ℕ) × (rest : List Told) × (g ≡ plain (item.Inc e.pool e.block r) ∷ rest) × At sys o now kept (Puts goal (entry e.pool e.block r)) a k rest
          into head made rest r is same whole h = (r, rest, whole ∙ ap (λ x. x ++ rest) is, subst (λ x. At sys o now kept (Puts goal x) a k rest) same h)
