-- What is read where an entry is posted last-in or deferred, and posts behind their heads.
use Rattle.std.proofs.Common.{◌≡◌, ◌↔◌, ℕ, ◌==◌, true, List, [], ◌∷◌, ◌++◌, Some, None, refl, sym, ap, subst, arith}
use Rattle.std.proofs.lemmas.Bool.Decides.{nat_tests}
use Rattle.std.specs.declared.option.Option.{Option}
use Rattle.qp_model.specs.declared.systems.System.{System}
use Rattle.qp_model.specs.declared.bodies.Entry.{Entry}
use Rattle.qp_model.specs.declared.bodies.Body.{Body}
use Rattle.qp_model.specs.declared.bodies.Body.TheVariants as item
use Rattle.qp_model.specs.Line.{same_entry}
use Rattle.qp_model.specs.Told.{Told, Known, Nothing, plain}
use Rattle.qp_model.specs.Calls.{Answer, Granted, Refused, AtQueue, AtFront}
use Rattle.qp_model.specs.Shapes.{Posts, PostsFront}
use Rattle.qp_model.proofs.LineLemmas.{same_number}
use Rattle.qp_check_calls.specs.CallState.{ToFront, ToDeferred, CallStage, Puts, Whole}
use Rattle.qp_check_calls.specs.CallStateNext.{stage_next, put_next, front_next, deferred_next, fronted, list_after}
use Rattle.qp_check_calls.proofs.ReadLemmas.{At, at-step, at-stepped, at-ended, at-whole}
use Rattle.qp_model.proofs.RecordLemmas.{told-is, same_entry-is, same_entry-refl}
use Rattle.qp_check_calls.proofs.StageLemmas.{only-passed}

-- what a last-in post behind its head leaves, where the call goes on behind it, or ends
pub data Fronted (o : ℕ) (e : Entry) (kept : List Entry) (More : List Told → Type 0) (a : Answer) (k : List Entry) (g : List Told) : Type 0 where
  IsFronted : (one rest : List Told) → PostsFront o [] e Granted one → g ≡ one ++ rest → More rest → Fronted o e kept More a k g
  HasNoFront : PostsFront o [] e AtFront g → a ≡ AtFront → k ≡ kept → Fronted o e kept More a k g

module _ (sys : System) (o : ℕ) (now : Option Entry) (kept : List Entry) (a : Answer) (k : List Entry) where
  pub at-front-out : (recalled : Option Entry) (e : Entry) (g : List Told)
      → At sys o now kept (Puts (ToFront recalled) e) a k g → Fronted o e kept (At sys o now kept (fronted recalled) a k) a k g
  unfolding stage_next put_next PostsFront
  at-front-out recalled e [] h = absurd (cc ((at-ended sys o now kept (Puts (ToFront recalled) e) a k h).0))
  at-front-out recalled e (t ∷ g) h =
      let one = at-stepped sys o now kept (Puts (ToFront recalled) e) a k t g h in by t.body t.known refl refl one.0 one.1 one.2
    where
      by : (body : Body) (known : Known) → t.body ≡ body → t.known ≡ known → (next : CallStage)
          → front_next o recalled e body known ≡ Some next → At sys o now (list_after kept body) next a k g
          → Fronted o e kept (At sys o now kept (fronted recalled) a k) a k (t ∷ g)
      by (item.Lifo f l m x) Nothing is_body is_known next is more =
          let passed = only-passed (same_entry x e) _ _ is in
          let e2 : x ≡ e = same_entry-is x e passed.0 in
          let whole : t ≡ plain (item.Lifo f l m x) = told-is t _ _ is_body is_known in
          IsFronted (plain (item.Lifo f l m e) ∷ []) g (f, l, m, refl) (cc) (subst (λ s. At sys o now kept s a k g) (sym passed.1) more)
      by (item.NoLifo a2 f l m) Nothing is_body is_known next is more =
          let passed = only-passed (a2 == o) _ _ is in
          let test : (a2 == o) ≡ true = passed.0 in
          let e1 : a2 ≡ o = grind (arith, nat_tests) in
          let whole : t ≡ plain (item.NoLifo a2 f l m) = told-is t _ _ is_body is_known in
          let last = (at-whole sys o now kept AtFront a k g).0 (subst (λ s. At sys o now kept s a k g) (sym passed.1) more) in
          let end : g ≡ [] = last.0 in
          HasNoFront (f, l, m, cc) last.1 last.2
      by body known is_body is_known next is more = absurd (cc)

  pub at-front-into : (recalled : Option Entry) (e : Entry) (g : List Told)
      → Fronted o e kept (At sys o now kept (fronted recalled) a k) a k g → At sys o now kept (Puts (ToFront recalled) e) a k g
  unfolding stage_next put_next PostsFront
  at-front-into recalled e g (IsFronted one rest p is more) =
      rw (is, p.3) (at-step sys o now kept _ (fronted recalled) a k _ rest (rw (same_entry-refl e) refl) more)
  at-front-into recalled e g (HasNoFront p q r) =
      rw p.3 (at-step sys o now kept _ (Whole AtFront) a k _ [] (rw (same_number o) refl) ((at-whole sys o now kept AtFront a k []).1 (refl, q, r)))

  pub at-deferred : (e : Entry) (g : List Told)
      → At sys o now kept (Puts ToDeferred e) a k g ↔ ((g ≡ plain (item.Defer e) ∷ []) × (a ≡ Granted) × (k ≡ kept ++ e ∷ []))
  unfolding stage_next put_next
  at-deferred e g = (out g, λ h. rw h.0 (into h.1 h.2))
    where
      by : (t : Told) (g : List Told) (body : Body) (known : Known) → t.body ≡ body → t.known ≡ known → (next : CallStage)
          → deferred_next e body known ≡ Some next → At sys o now (list_after kept body) next a k g
          → (t ∷ g ≡ plain (item.Defer e) ∷ []) × (a ≡ Granted) × (k ≡ kept ++ e ∷ [])
      by t g (item.Defer x) Nothing is_body is_known next is more =
          let passed = only-passed (same_entry x e) _ _ is in
          let e2 : x ≡ e = same_entry-is x e passed.0 in
          let whole : t ≡ plain (item.Defer x) = told-is t _ _ is_body is_known in
          let last = (at-whole sys o now (kept ++ x ∷ []) Granted a k g).0 (subst (λ s. At sys o now (kept ++ x ∷ []) s a k g) (sym passed.1) more) in
          let end : g ≡ [] = last.0 in
          let list : k ≡ kept ++ x ∷ [] = last.2 in
          (cc, last.1, cc)
      by t g body known is_body is_known next is more = absurd (cc)

      out : (g : List Told) → At sys o now kept (Puts ToDeferred e) a k g → (g ≡ plain (item.Defer e) ∷ []) × (a ≡ Granted) × (k ≡ kept ++ e ∷ [])
      out [] h = absurd (cc ((at-ended sys o now kept (Puts ToDeferred e) a k h).0))
      out (t ∷ g) h = let one = at-stepped sys o now kept (Puts ToDeferred e) a k t g h in by t g t.body t.known refl refl one.0 one.1 one.2

      into : a ≡ Granted → k ≡ kept ++ e ∷ [] → At sys o now kept (Puts ToDeferred e) a k (plain (item.Defer e) ∷ [])
      into p q =
          at-step sys o now kept _ (Whole Granted) a k _ [] (rw (same_entry-refl e) refl) ((at-whole sys o now (kept ++ e ∷ []) Granted a k []).1 (refl, p, q))

-- posts behind the records that made their entry
pub posts-head : (ring to : ℕ) (margin : Option ℕ) (head : List Told) (e : Entry) (answer : Answer) (g : List Told)
    → Posts ring to margin head e answer g → (rest : List Told) × (g ≡ head ++ rest) × Posts ring to margin [] e answer rest
unfolding Posts
posts-head ring to margin head e Granted g h = (plain (item.Post to h.0 h.1 h.2 e) ∷ [], h.3, (h.0, h.1, h.2, refl, h.4))
posts-head ring to (Some n) head e Refused g h = (plain (item.Full to h.0 h.1 h.2 n) ∷ h.3, h.4, (h.0, h.1, h.2, h.3, refl, h.5))
posts-head ring to None head e AtQueue g h = (plain (item.NoEntry to h.0 h.1 h.2) ∷ [], h.3, (h.0, h.1, h.2, refl))
posts-head ring to margin head e answer g h = absurd h

pub head-posts : (ring to : ℕ) (margin : Option ℕ) (head : List Told) (e : Entry) (answer : Answer) (rest : List Told)
    → Posts ring to margin [] e answer rest → Posts ring to margin head e answer (head ++ rest)
unfolding Posts
head-posts ring to margin head e Granted rest h = (h.0, h.1, h.2, ap (λ x. head ++ x) h.3, h.4)
head-posts ring to (Some n) head e Refused rest h = (h.0, h.1, h.2, h.3, ap (λ x. head ++ x) h.4, h.5)
head-posts ring to None head e AtQueue rest h = (h.0, h.1, h.2, ap (λ x. head ++ x) h.3)
head-posts ring to margin head e answer rest h = absurd h

pub front-head : (o : ℕ) (head : List Told) (e : Entry) (answer : Answer) (g : List Told)
    → PostsFront o head e answer g → (rest : List Told) × (g ≡ head ++ rest) × PostsFront o [] e answer rest
unfolding PostsFront
front-head o head e Granted g h = (plain (item.Lifo h.0 h.1 h.2 e) ∷ [], h.3, (h.0, h.1, h.2, refl))
front-head o head e AtFront g h = (plain (item.NoLifo o h.0 h.1 h.2) ∷ [], h.3, (h.0, h.1, h.2, refl))
front-head o head e answer g h = absurd h

pub head-front : (o : ℕ) (head : List Told) (e : Entry) (answer : Answer) (rest : List Told)
    → PostsFront o [] e answer rest → PostsFront o head e answer (head ++ rest)
unfolding PostsFront
head-front o head e Granted rest h = (h.0, h.1, h.2, ap (λ x. head ++ x) h.3)
head-front o head e AtFront rest h = (h.0, h.1, h.2, ap (λ x. head ++ x) h.3)
head-front o head e answer rest h = absurd h
