-- What is read where a call makes the entry of a new event.
use Rattle.std.proofs.Common.{◌≡◌, ℕ, ◌==◌, nat_lt, Bool, true, false, ◌&&◌, List, [], ◌∷◌, ◌++◌, length, Some, None, is_none, refl, sym, ◌∙◌, ap, subst, arith}
use Rattle.std.proofs.lemmas.Bool.Decides.{nat_tests}
use Rattle.std.specs.declared.option.Option.{Option}
use Rattle.std.specs.Option.{unwrap_or}
use Rattle.qp_model.specs.declared.systems.System.{System}
use Rattle.qp_model.specs.declared.bodies.Entry.{Entry}
use Rattle.qp_model.specs.declared.bodies.Body.{Body}
use Rattle.qp_model.specs.declared.bodies.Body.TheVariants as item
use Rattle.qp_model.specs.Record.{entry}
use Rattle.qp_model.specs.Sources.{same_list}
use Rattle.qp_model.specs.Told.{Told, Known, Nothing, Free, plain, told_new}
use Rattle.qp_model.specs.Calls.{Answer, Refused, AtPool}
use Rattle.qp_model.specs.Parts.{sizes_of, first_pool}
use Rattle.qp_model.specs.Shapes.{MakesNew, MakesBlock, NoBlockFor}
use Rattle.qp_model.proofs.LineLemmas.{same_number}
use Rattle.qp_check_calls.specs.CallState.{Goal, CallStage, Refers, Puts, Whole}
use Rattle.qp_check_calls.specs.CallStateNext.{stage_next, block_next, new_next, list_after, only, is_of}
use Rattle.qp_check_calls.proofs.ReadLemmas.{At, at-step, at-stepped, at-ended, at-whole}
use Rattle.qp_check_calls.proofs.ReleaseLemmas.{at-refers}
use Rattle.qp_model.proofs.RecordLemmas.{told-is}
use Rattle.qp_check_calls.proofs.StageLemmas.{only-passed}

pub same_list-itself : (xs : List ℕ) → same_list xs xs ≡ true
same_list-itself [] = refl
same_list-itself (x ∷ xs) = rw (same_number x, same_list-itself xs) refl

pub same_list-is : (xs ys : List ℕ) → same_list xs ys ≡ true → xs ≡ ys
same_list-is [] [] h = refl
same_list-is [] (y ∷ ys) h = absurd (cc)
same_list-is (x ∷ xs) [] h = absurd (cc)
same_list-is (x ∷ xs) (y ∷ ys) h =
    let e1 : x ≡ y = grind (arith, nat_tests) in
    let more : same_list xs ys ≡ true = grind (arith, nat_tests) in
    let e2 : xs ≡ ys = same_list-is xs ys more in
    cc

-- an option that has a number
pub is_of-is : (q : Option ℕ) (n : ℕ) → is_of q n ≡ true → q ≡ Some n
is_of-is None n h = absurd (cc)
is_of-is (Some m) n h = let same : m ≡ n = grind (arith, nat_tests) in cc

module _ (sys : System) (o : ℕ) (now : Option Entry) (kept : List Entry) (a : Answer) (k : List Entry) where
  -- stages that read the same first records read the same
  pub at-same : (s r : CallStage) → ((body : Body) (known : Known) → stage_next sys o now kept s body known ≡ stage_next sys o now kept r body known)
      → ((b : Answer) → s ≡ Whole b → ⊥) → (g : List Told) → At sys o now kept s a k g → At sys o now kept r a k g
  at-same s r same more [] h = absurd (more a (at-ended sys o now kept s a k h).0)
  at-same s r same more (t ∷ g) h =
      let one = at-stepped sys o now kept s a k t g h in at-step sys o now kept r one.0 a k t g (sym (same t.body t.known) ∙ one.1) one.2

-- what a new event leaves: too few blocks were there for it, or its entry is made and put
pub data MadeNew (fixed : Bool) (sizes : List ℕ) (sig : ℕ) (pars : List ℕ) (reserve : Option ℕ) (kept : List Entry) (Put : Entry → List Told → Type 0) (a : Answer) (k : List Entry)
    (g : List Told) : Type 0 where
  HasNoBlock : NoBlockFor fixed sizes pars reserve a g → k ≡ kept → MadeNew fixed sizes sig pars reserve kept Put a k g
  IsMade : (head : List Told) (e : Entry) (rest : List Told) → MakesNew fixed sizes sig pars reserve head e → g ≡ head ++ rest → Put e rest
      → MadeNew fixed sizes sig pars reserve kept Put a k g

module _ (sys : System) (o : ℕ) (now : Option Entry) (kept : List Entry) (a : Answer) (k : List Entry) (sig : ℕ) (pars : List ℕ) (reserve : Option ℕ) (goal : Goal) (s : CallStage)
    (more : (b : Answer) → s ≡ Whole b → ⊥) where
  abbrev New : Bool → List Told → Type 0
  New fixed g = MadeNew fixed (sizes_of sys) sig pars reserve kept (λ e. At sys o now kept (Puts goal e) a k) a k g

  block-out : (t : Told) (g : List Told) (body : Body) (known : Known) → t.body ≡ body → t.known ≡ known → (next : CallStage)
      → block_next (sizes_of sys) sig pars reserve goal body known ≡ Some next → At sys o now (list_after kept body) next a k g → New false (t ∷ g)
  unfolding block_next MakesNew MakesBlock NoBlockFor
  block-out t g (item.New p n b from sg ps) (Free free) is_body is_known next is later =
      let passed = only-passed (is_of (first_pool (sizes_of sys) (length pars)) p && (sg == sig) && same_list ps pars && nat_lt (unwrap_or reserve 0) free) _ _ is in
      let test : (is_of (first_pool (sizes_of sys) (length pars)) p && (sg == sig) && same_list ps pars && nat_lt (unwrap_or reserve 0) free) ≡ true = passed.0 in
      let t1 : is_of (first_pool (sizes_of sys) (length pars)) p ≡ true = grind (arith, nat_tests) in
      let e2 : sg ≡ sig = grind (arith, nat_tests) in
      let t3 : same_list ps pars ≡ true = grind (arith, nat_tests) in
      let e3 : ps ≡ pars = same_list-is ps pars t3 in
      let t4 : nat_lt (unwrap_or reserve 0) free ≡ true = grind (arith, nat_tests) in
      let pool : first_pool (sizes_of sys) (length pars) ≡ Some p = is_of-is _ p t1 in
      let refers = (at-refers sys o now kept a k p b goal g).0 (subst (λ x. At sys o now kept x a k g) (sym passed.1) later) in
      let then : g ≡ plain (item.Inc p b refers.0) ∷ refers.1 = refers.2 in
      let whole : t ≡ told_new p n b from sg ps free = told-is t _ _ is_body is_known in
      IsMade (told_new p n b from sig pars free ∷ plain (item.Inc p b refers.0) ∷ []) (entry p b refers.0) refers.1
      (p, n, b, from, free, refers.0, refl, refl, pool, t4) (cc) refers.3
  block-out t g (item.NoBlock p n free) Nothing is_body is_known next is later =
      let passed = only-passed (is_of (first_pool (sizes_of sys) (length pars)) p && is_none reserve) _ _ is in
      by reserve passed.0 (told-is t _ _ is_body is_known) ((at-whole sys o now kept AtPool a k g).0 (subst (λ x. At sys o now kept x a k g) (sym passed.1) later))
    where
      by : (reserve : Option ℕ) → (is_of (first_pool (sizes_of sys) (length pars)) p && is_none reserve) ≡ true → t ≡ plain (item.NoBlock p n free)
          → ((g ≡ []) × (a ≡ AtPool) × (k ≡ kept)) → MadeNew false (sizes_of sys) sig pars reserve kept (λ e. At sys o now kept (Puts goal e) a k) a k (t ∷ g)
      by (Some r) test whole last = let no : false ≡ true = grind (arith, nat_tests) in absurd (cc)
      by None test whole last =
          let t1 : is_of (first_pool (sizes_of sys) (length pars)) p ≡ true = grind (arith, nat_tests) in
          let pool : first_pool (sizes_of sys) (length pars) ≡ Some p = is_of-is _ p t1 in
          let end : g ≡ [] = last.0 in
          HasNoBlock (subst (λ x. NoBlockFor false (sizes_of sys) pars None x (t ∷ g)) (sym last.1) (p, n, free, refl, pool, cc)) last.2
  block-out t g (item.Short p n free r) Nothing is_body is_known next is later =
      let passed = only-passed (is_of (first_pool (sizes_of sys) (length pars)) p && is_of reserve r) _ _ is in
      by reserve passed.0 (told-is t _ _ is_body is_known) ((at-whole sys o now kept Refused a k g).0 (subst (λ x. At sys o now kept x a k g) (sym passed.1) later))
    where
      by : (reserve : Option ℕ) → (is_of (first_pool (sizes_of sys) (length pars)) p && is_of reserve r) ≡ true → t ≡ plain (item.Short p n free r)
          → ((g ≡ []) × (a ≡ Refused) × (k ≡ kept)) → MadeNew false (sizes_of sys) sig pars reserve kept (λ e. At sys o now kept (Puts goal e) a k) a k (t ∷ g)
      by None test whole last = let no : false ≡ true = grind (arith, nat_tests) in absurd (cc)
      by (Some j) test whole last =
          let t1 : is_of (first_pool (sizes_of sys) (length pars)) p ≡ true = grind (arith, nat_tests) in
          let e2 : j ≡ r = grind (arith, nat_tests) in
          let pool : first_pool (sizes_of sys) (length pars) ≡ Some p = is_of-is _ p t1 in
          let end : g ≡ [] = last.0 in
          HasNoBlock (subst (λ x. NoBlockFor false (sizes_of sys) pars (Some j) x (t ∷ g)) (sym last.1) (p, n, free, refl, pool, cc)) last.2
  block-out t g body known is_body is_known next is later = absurd (cc)

  pub at-new-out : (fixed : Bool)
      → ((body : Body) (known : Known) → stage_next sys o now kept s body known ≡ new_next fixed sys o kept sig pars reserve goal body known)
      → (g : List Told) → At sys o now kept s a k g → New fixed g
  unfolding stage_next new_next MakesNew
  at-new-out true is_new g h =
      IsMade [] (entry 0 sig 0) g (refl, refl) refl (at-same sys o now kept a k s (Puts goal (entry 0 sig 0)) (λ body known. is_new body known) more g h)
  at-new-out false is_new [] h = absurd (more a (at-ended sys o now kept s a k h).0)
  at-new-out false is_new (t ∷ g) h =
      let one = at-stepped sys o now kept s a k t g h in block-out t g t.body t.known refl refl one.0 (sym (is_new t.body t.known) ∙ one.1) one.2

  no-block-into : (b : Answer) → a ≡ b → (r : Option ℕ) → reserve ≡ r → (g : List Told)
      → ((body : Body) (known : Known) → stage_next sys o now kept s body known ≡ new_next false sys o kept sig pars reserve goal body known)
      → NoBlockFor false (sizes_of sys) pars r b g → k ≡ kept → At sys o now kept s a k g
  unfolding new_next block_next NoBlockFor
  no-block-into AtPool is None none g is_new n q =
      rw n.5 (at-step sys o now kept s (Whole AtPool) a k (plain (item.NoBlock n.0 n.1 n.2)) [] (is_new _ _ ∙ test) ((at-whole sys o now kept AtPool a k []).1 (refl, is, q)))
    where
      test : only (is_of (first_pool (sizes_of sys) (length pars)) n.0 && is_none reserve) (Whole AtPool) ≡ Some (Whole AtPool)
      test = let pool : first_pool (sizes_of sys) (length pars) ≡ Some n.0 = n.4 in rw (pool, none, same_number n.0) refl
  no-block-into Refused is (Some r) none g is_new n q =
      rw n.5
      (at-step sys o now kept s (Whole Refused) a k (plain (item.Short n.0 n.1 n.2 r)) [] (is_new _ _ ∙ test) ((at-whole sys o now kept Refused a k []).1 (refl, is, q)))
    where
      test : only (is_of (first_pool (sizes_of sys) (length pars)) n.0 && is_of reserve r) (Whole Refused) ≡ Some (Whole Refused)
      test = let pool : first_pool (sizes_of sys) (length pars) ≡ Some n.0 = n.4 in rw (pool, none, same_number n.0, same_number r) refl
  no-block-into b is None none g is_new n q = absurd n
  no-block-into b is (Some r) none g is_new n q = absurd n

  block-into : (g head : List Told) (e : Entry) (rest : List Told)
      → ((body : Body) (known : Known) → stage_next sys o now kept s body known ≡ new_next false sys o kept sig pars reserve goal body known)
      → MakesBlock (sizes_of sys) sig pars reserve head e → g ≡ head ++ rest → At sys o now kept (Puts goal e) a k rest → At sys o now kept s a k g
  unfolding new_next block_next MakesBlock
  block-into g head e rest is_new m is h = rw (is, m.6) (at-step sys o now kept s (Refers m.0 m.2 goal) a k _ _ (is_new _ _ ∙ test) refers)
    where
      test : only (is_of (first_pool (sizes_of sys) (length pars)) m.0 && (sig == sig) && same_list pars pars && nat_lt (unwrap_or reserve 0) m.4) (Refers m.0 m.2 goal)
          ≡ Some (Refers m.0 m.2 goal)
      test =
          let pool : first_pool (sizes_of sys) (length pars) ≡ Some m.0 = m.8 in
          let free : nat_lt (unwrap_or reserve 0) m.4 ≡ true = m.9 in
          rw (pool, same_number m.0, same_number sig, same_list-itself pars, free) refl

      refers : At sys o now kept (Refers m.0 m.2 goal) a k (plain (item.Inc m.0 m.2 m.5) ∷ rest)
      refers = (at-refers sys o now kept a k m.0 m.2 goal _).1 (m.5, rest, refl, subst (λ x. At sys o now kept (Puts goal x) a k rest) m.7 h)

  pub at-new-into : (fixed : Bool)
      → ((body : Body) (known : Known) → stage_next sys o now kept s body known ≡ new_next fixed sys o kept sig pars reserve goal body known)
      → (g : List Told) → New fixed g → At sys o now kept s a k g
  unfolding stage_next new_next MakesNew NoBlockFor
  at-new-into true is_new g (IsMade head e rest m is h) =
      let whole : rest ≡ g = sym (is ∙ ap (λ x. x ++ rest) m.0) in
      at-same sys o now kept a k (Puts goal (entry 0 sig 0)) s (λ body known. sym (is_new body known)) (λ b e. cc) g
      (subst (λ x. At sys o now kept (Puts goal (entry 0 sig 0)) a k x) whole (subst (λ x. At sys o now kept (Puts goal x) a k rest) m.1 h))
  at-new-into false is_new g (IsMade head e rest m is h) = block-into g head e rest is_new m is h
  at-new-into true is_new g (HasNoBlock n q) = absurd (static a reserve n)
    where
      static : (a : Answer) (reserve : Option ℕ) → NoBlockFor true (sizes_of sys) pars reserve a g → ⊥
      static AtPool None n = cc (n.3)
      static Refused (Some r) n = cc (n.3)
      static a None n = n
      static a (Some r) n = n
  at-new-into false is_new g (HasNoBlock n q) = no-block-into a refl reserve refl g is_new n q
