-- The records of a publication.
use Rattle.std.proofs.Common.{◌≡◌, ◌↔◌, ℕ, zero, suc, ◌==◌, max, true, List, [], ◌∷◌, ◌++◌, Some, None, refl, sym, ◌∙◌, ap, subst, inl, inr, append_assoc, arith}
use Rattle.std.proofs.lemmas.Bool.Decides.{nat_tests}
use Rattle.std.specs.declared.option.Option.{Option}
use Rattle.qp_model.specs.declared.systems.System.{System}
use Rattle.qp_model.specs.declared.bodies.Entry.{Entry}
use Rattle.qp_model.specs.declared.bodies.Body.{Body}
use Rattle.qp_model.specs.declared.bodies.Body.TheVariants as item
use Rattle.qp_model.specs.Told.{Told, Known, Nothing, Former, plain, raised}
use Rattle.qp_model.specs.Calls as call
use Rattle.qp_model.specs.Calls.{Answer, Granted, AtQueue}
use Rattle.qp_model.specs.Sites.{ring_of}
use Rattle.qp_model.specs.Parts.{is_static, sizes_of, members}
use Rattle.qp_model.specs.Shapes.{Fits, Drops, MakesAgain, NoBlockFor, Posts, PostsOne, PostsToAll, PostsUpTo, PublishesFirst, PublishesLast, Publishes, raising, restoring}
use Rattle.qp_model.specs.Deferral.{KeepsDeferred}
use Rattle.qp_model.proofs.LineLemmas.{same_number}
use Rattle.qp_check_calls.specs.CallState.{Ends, PublishesOn, ToQueue, ToSet, CallStage, Begins, Puts, Raises, Restores, Whole}
use Rattle.qp_check_calls.specs.CallStateNext.{stage_next, begin_next, put_next, set_next, raise_next, restore_next, restored, released, publishes_on, raises, again, list_after}
use Rattle.qp_check_calls.proofs.ReadLemmas.{At, at-step, at-stepped, at-ended}
use Rattle.qp_check_calls.proofs.ReleaseLemmas.{at-again, at-release}
use Rattle.qp_check_calls.proofs.PutLemmas.{Queued, IsQueued, IsFull, HasNone, at-queue-out, at-queue-into}
use Rattle.qp_check_calls.proofs.FrontLemmas.{posts-head, head-posts}
use Rattle.qp_check_calls.proofs.NewLemmas.{MadeNew, HasNoBlock, IsMade, at-new-out, at-new-into}
use Rattle.qp_model.proofs.RecordLemmas.{told-is}
use Rattle.qp_check_calls.proofs.StageLemmas.{only-passed}

-- the record that restores a ceiling, where it was raised
abbrev pub unlocks : Option ℕ → List Told
unlocks None = []
unlocks (Some former) = plain (item.Unlock former) ∷ []

-- what a publication leaves from its posts on
pub data Published (sys : System) (own : Entry) (former : Option ℕ) (ms : List ℕ) (kept : List Entry) (a : Answer) (k : List Entry) (g : List Told) : Type 0 where
  IsPublished : (posts rel : List Told) → PostsToAll (ring_of sys) own ms posts → Drops own rel → g ≡ posts ++ (unlocks former ++ rel) → a ≡ Granted → k ≡ kept
      → Published sys own former ms kept a k g
  IsCut : PostsUpTo (ring_of sys) own ms g → a ≡ AtQueue → k ≡ kept → Published sys own former ms kept a k g

module _ (sys : System) (o : ℕ) (now : Option Entry) (kept : List Entry) (a : Answer) (k : List Entry) where
  -- the ceiling is restored, and the publication's own reference is released
  pub at-restored : (own : Entry) (former : Option ℕ) (g : List Told)
      → At sys o now kept (restored own former) a k g ↔ ((rel : List Told) × Drops own rel × (g ≡ unlocks former ++ rel) × (a ≡ Granted) × (k ≡ kept))
  unfolding stage_next
  at-restored own None g = (
    λ h. let last = (at-release sys o now kept a k own Granted g).0 h in (g, last.0, refl, last.1, last.2),
    λ h. rw h.2 ((at-release sys o now kept a k own Granted h.0).1 (h.1, h.3, h.4)),
  )
  at-restored own (Some former) g = (out g, λ h. rw h.2 (into h.0 h.1 h.3 h.4))
    where
      by : (t : Told) (g : List Told) (body : Body) (known : Known) → t.body ≡ body → t.known ≡ known → (next : CallStage)
          → restore_next own former body known ≡ Some next → At sys o now (list_after kept body) next a k g
          → (rel : List Told) × Drops own rel × (t ∷ g ≡ plain (item.Unlock former) ∷ rel) × (a ≡ Granted) × (k ≡ kept)
      by t g (item.Unlock ceiling) Nothing is_body is_known next f more =
          let passed = only-passed (ceiling == former) _ _ f in
          let test : (ceiling == former) ≡ true = passed.0 in
          let e1 : ceiling ≡ former = grind (arith, nat_tests) in
          let whole : t ≡ plain (item.Unlock ceiling) = told-is t _ _ is_body is_known in
          let last = (at-release sys o now kept a k own Granted g).0 (subst (λ s. At sys o now kept s a k g) (sym passed.1) more) in
          (g, last.0, cc, last.1, last.2)
      by t g body known is_body is_known next f more = absurd (cc)

      out : (g : List Told) → At sys o now kept (Restores own former) a k g
          → (rel : List Told) × Drops own rel × (g ≡ plain (item.Unlock former) ∷ rel) × (a ≡ Granted) × (k ≡ kept)
      out [] h = absurd (cc ((at-ended sys o now kept (Restores own former) a k h).0))
      out (t ∷ g) h = let one = at-stepped sys o now kept (Restores own former) a k t g h in by t g t.body t.known refl refl one.0 one.1 one.2

      into : (rel : List Told) → Drops own rel → a ≡ Granted → k ≡ kept → At sys o now kept (Restores own former) a k (plain (item.Unlock former) ∷ rel)
      into rel d q r =
          at-step sys o now kept _ (released own (Whole Granted) (Ends Granted)) a k _ rel (rw (same_number former) refl) ((at-release sys o now kept a k own Granted rel).1 (d, q, r))

  publishes-out : (own : Entry) (former : Option ℕ) (ms : List ℕ) (g : List Told) → At sys o now kept (publishes_on own former ms) a k g
      → Published sys own former ms kept a k g
  unfolding PostsToAll PostsUpTo PostsOne Posts
  publishes-out own former [] g h = let last = (at-restored own former g).0 h in IsPublished [] last.0 refl last.1 last.2 last.3 last.4
  publishes-out own former (m ∷ others) g h =
      let made = (at-again sys o now kept a k (ToQueue m None (PublishesOn own former others)) own g).0 h in
      by (λ rest. publishes-out own former others rest) made.0 made.1 made.2 made.3 made.4
      (at-queue-out sys o now kept a k m None (PublishesOn own former others) made.1 made.2 made.5)
    where
      by : ((rest : List Told) → At sys o now kept (publishes_on own former others) a k rest → Published sys own former others kept a k rest)
          → (head : List Told) (made : Entry) (rest : List Told) → MakesAgain own head made → g ≡ head ++ rest
          → Queued sys m None made kept (At sys o now kept (publishes_on own former others) a k) a k rest → Published sys own former (m ∷ others) kept a k g
      by later head made rest again is (IsQueued one more p q h) = go (later more h)
        where
          first : PostsOne (ring_of sys m) own m Granted (head ++ one)
          first = (head, made, again, head-posts (ring_of sys m) m None head made Granted one p)

          whole : g ≡ (head ++ one) ++ more
          whole = is ∙ ap (λ x. head ++ x) q ∙ sym (append_assoc head one more)

          go : Published sys own former others kept a k more → Published sys own former (m ∷ others) kept a k g
          go (IsPublished posts rel all d r x y) =
              IsPublished ((head ++ one) ++ posts) rel (head ++ one, posts, refl, first, all) d
              (whole ∙ ap (λ z. (head ++ one) ++ z) r ∙ sym (append_assoc (head ++ one) posts (unlocks former ++ rel))) x y
          go (IsCut up x y) = IsCut (inr (head ++ one, more, whole, first, up)) x y
      by later head made rest again is (IsFull p q r) = absurd p
      by later head made rest again is (HasNone p q r) =
          IsCut (inl (head, made, again, subst (λ x. Posts (ring_of sys m) m None head made AtQueue x) (sym is) (head-posts (ring_of sys m) m None head made AtQueue rest p))) q r

  publishes-into : (own : Entry) (former : Option ℕ) (ms : List ℕ) (g : List Told) → Published sys own former ms kept a k g
      → At sys o now kept (publishes_on own former ms) a k g
  unfolding PostsToAll PostsUpTo PostsOne
  publishes-into own former [] g (IsPublished posts rel all d is q r) =
      (at-restored own former g).1 (rel, d, is ∙ ap (λ x. x ++ (unlocks former ++ rel)) all, q, r)
  publishes-into own former [] g (IsCut up q r) = absurd up
  publishes-into own former (m ∷ others) g (IsPublished posts rel all d is q r) =
      one_by (publishes-into own former others (all.1 ++ (unlocks former ++ rel)) (IsPublished all.1 rel all.4 d refl q r))
    where
      one_by : At sys o now kept (publishes_on own former others) a k (all.1 ++ (unlocks former ++ rel)) → At sys o now kept (again (ToQueue m None (PublishesOn own former others)) own) a k g
      one_by more =
          let first = all.3 in
          let parts = posts-head (ring_of sys m) m None first.0 first.1 Granted all.0 first.3 in
          let rest : List Told = all.1 ++ (unlocks former ++ rel) in
          let whole : g ≡ first.0 ++ (parts.0 ++ rest) =
          is ∙ ap (λ x. x ++ (unlocks former ++ rel)) all.2 ∙ append_assoc all.0 all.1 (unlocks former ++ rel) ∙ ap (λ x. x ++ rest) parts.1 ∙ append_assoc first.0 parts.0 rest in
          (at-again sys o now kept a k (ToQueue m None (PublishesOn own former others)) own g).1 (
            first.0,
            first.1,
            parts.0 ++ rest,
            first.2,
            whole,
            at-queue-into sys o now kept a k m None (PublishesOn own former others) first.1 (parts.0 ++ rest) (IsQueued parts.0 rest parts.2 refl more),
          )
  publishes-into own former (m ∷ others) g (IsCut (inl up) q r) =
      let parts = posts-head (ring_of sys m) m None up.0 up.1 AtQueue g up.3 in
      (at-again sys o now kept a k (ToQueue m None (PublishesOn own former others)) own g).1
      (up.0, up.1, parts.0, up.2, parts.1, at-queue-into sys o now kept a k m None (PublishesOn own former others) up.1 parts.0 (HasNone parts.2 q r))
  publishes-into own former (m ∷ others) g (IsCut (inr up) q r) = one_by (publishes-into own former others up.1 (IsCut up.4 q r))
    where
      one_by : At sys o now kept (publishes_on own former others) a k up.1 → At sys o now kept (again (ToQueue m None (PublishesOn own former others)) own) a k g
      one_by more =
          let first = up.3 in
          let parts = posts-head (ring_of sys m) m None first.0 first.1 Granted up.0 first.3 in
          let whole : g ≡ first.0 ++ (parts.0 ++ up.1) = up.2 ∙ ap (λ x. x ++ up.1) parts.1 ∙ append_assoc first.0 parts.0 up.1 in
          (at-again sys o now kept a k (ToQueue m None (PublishesOn own former others)) own g).1 (
            first.0,
            first.1,
            parts.0 ++ up.1,
            first.2,
            whole,
            at-queue-into sys o now kept a k m None (PublishesOn own former others) first.1 (parts.0 ++ up.1) (IsQueued parts.0 up.1 parts.2 refl more),
          )

  -- the ceiling is raised
  pub at-raise : (own : Entry) (m : ℕ) (others : List ℕ) (g : List Told)
      → At sys o now kept (Raises own m others) a k g
      ↔ ((former : ℕ) × (rest : List Told) × (g ≡ raised (max former m) former ∷ rest) × At sys o now kept (publishes_on own (Some former) (m ∷ others)) a k rest)
  unfolding stage_next
  at-raise own m others g = (out g, λ h. rw h.2 (into h.0 h.1 h.3))
    where
      by : (t : Told) (g : List Told) (body : Body) (known : Known) → t.body ≡ body → t.known ≡ known → (next : CallStage)
          → raise_next own m others body known ≡ Some next → At sys o now (list_after kept body) next a k g
          → (former : ℕ) × (rest : List Told) × (t ∷ g ≡ raised (max former m) former ∷ rest) × At sys o now kept (publishes_on own (Some former) (m ∷ others)) a k rest
      by t g (item.Lock ceiling) (Former former) is_body is_known next f more =
          let passed = only-passed (ceiling == max former m) _ _ f in
          let test : (ceiling == max former m) ≡ true = passed.0 in
          let e1 : ceiling ≡ max former m = grind (arith, nat_tests) in
          let whole : t ≡ raised ceiling former = told-is t _ _ is_body is_known in
          (former, g, cc, subst (λ s. At sys o now kept s a k g) (sym passed.1) more)
      by t g body known is_body is_known next f more = absurd (cc)

      out : (g : List Told) → At sys o now kept (Raises own m others) a k g
          → (former : ℕ) × (rest : List Told) × (g ≡ raised (max former m) former ∷ rest) × At sys o now kept (publishes_on own (Some former) (m ∷ others)) a k rest
      out [] h = absurd (cc ((at-ended sys o now kept (Raises own m others) a k h).0))
      out (t ∷ g) h = let one = at-stepped sys o now kept (Raises own m others) a k t g h in by t g t.body t.known refl refl one.0 one.1 one.2

      into : (former : ℕ) (rest : List Told) → At sys o now kept (publishes_on own (Some former) (m ∷ others)) a k rest
          → At sys o now kept (Raises own m others) a k (raised (max former m) former ∷ rest)
      into former rest h = at-step sys o now kept _ (publishes_on own (Some former) (m ∷ others)) a k _ rest (rw (same_number (max former m)) refl) h

  -- a publication goes to a set
  pub at-set : (sig : ℕ) (e : Entry) (g : List Told)
      → At sys o now kept (Puts (ToSet sig) e) a k g
      ↔ ((n set : ℕ) × (rest : List Told) × (g ≡ plain (item.Pub sig n set) ∷ rest) × At sys o now kept (raises o e (members set)) a k rest)
  unfolding stage_next put_next set_next
  at-set sig e g = (out g, λ h. rw h.3 (into h.0 h.1 h.2 h.4))
    where
      by : (t : Told) (g : List Told) (body : Body) (known : Known) → t.body ≡ body → t.known ≡ known → (next : CallStage)
          → set_next o sig e body known ≡ Some next → At sys o now (list_after kept body) next a k g
          → (n set : ℕ) × (rest : List Told) × (t ∷ g ≡ plain (item.Pub sig n set) ∷ rest) × At sys o now kept (raises o e (members set)) a k rest
      by t g (item.Pub s n set) Nothing is_body is_known next f more =
          let passed = only-passed (s == sig) _ _ f in
          let test : (s == sig) ≡ true = passed.0 in
          let e1 : s ≡ sig = grind (arith, nat_tests) in
          let whole : t ≡ plain (item.Pub s n set) = told-is t _ _ is_body is_known in
          (n, set, g, cc, subst (λ x. At sys o now kept x a k g) (sym passed.1) more)
      by t g body known is_body is_known next f more = absurd (cc)

      out : (g : List Told) → At sys o now kept (Puts (ToSet sig) e) a k g
          → (n set : ℕ) × (rest : List Told) × (g ≡ plain (item.Pub sig n set) ∷ rest) × At sys o now kept (raises o e (members set)) a k rest
      out [] h = absurd (cc ((at-ended sys o now kept (Puts (ToSet sig) e) a k h).0))
      out (t ∷ g) h = let one = at-stepped sys o now kept (Puts (ToSet sig) e) a k t g h in by t g t.body t.known refl refl one.0 one.1 one.2

      into : (n set : ℕ) (rest : List Told) → At sys o now kept (raises o e (members set)) a k rest → At sys o now kept (Puts (ToSet sig) e) a k (plain (item.Pub sig n set) ∷ rest)
      into n set rest h = at-step sys o now kept _ (raises o e (members set)) a k _ rest (rw (same_number sig) refl) h

-- what a publication leaves behind its `pub`
pub data Raised (sys : System) (o : ℕ) (own : Entry) (ms : List ℕ) (kept : List Entry) (a : Answer) (k : List Entry) (g : List Told) : Type 0 where
  IsRaised : (former : ℕ) (posts last : List Told) → PostsToAll (ring_of sys) own ms posts → PublishesLast o own former ms last
      → g ≡ raising o former ms ++ (posts ++ last) → a ≡ Granted → k ≡ kept → Raised sys o own ms kept a k g
  IsRaisedCut : (former : ℕ) (posts : List Told) → PostsUpTo (ring_of sys) own ms posts → g ≡ raising o former ms ++ posts → a ≡ AtQueue → k ≡ kept → Raised sys o own ms kept a k g

module _ (sys : System) (now : Option Entry) (kept : List Entry) (a : Answer) (k : List Entry) (own : Entry) where
  raises-out : (o : ℕ) (ms : List ℕ) (g : List Told) → At sys o now kept (raises o own ms) a k g → Raised sys o own ms kept a k g
  unfolding raising PublishesLast restoring
  raises-out o [] g h = by (publishes-out sys o now kept a k own None [] g h)
    where
      by : Published sys own None [] kept a k g → Raised sys o own [] kept a k g
      by (IsPublished posts rel all d is q r) = IsRaised 0 posts rel all (rel, d, refl) is q r
      by (IsCut up q r) = IsRaisedCut 0 g up refl q r
  raises-out zero (m ∷ others) g h = by (publishes-out sys 0 now kept a k own None (m ∷ others) g h)
    where
      by : Published sys own None (m ∷ others) kept a k g → Raised sys 0 own (m ∷ others) kept a k g
      by (IsPublished posts rel all d is q r) = IsRaised 0 posts rel all (rel, d, refl) is q r
      by (IsCut up q r) = IsRaisedCut 0 g up refl q r
  raises-out (suc o) (m ∷ others) g h =
      let lock = (at-raise sys (suc o) now kept a k own m others g).0 h in
      by lock.0 lock.1 lock.2 (publishes-out sys (suc o) now kept a k own (Some lock.0) (m ∷ others) lock.1 lock.3)
    where
      by : (former : ℕ) (rest : List Told) → g ≡ raised (max former m) former ∷ rest → Published sys own (Some former) (m ∷ others) kept a k rest
          → Raised sys (suc o) own (m ∷ others) kept a k g
      by former rest whole (IsPublished posts rel all d is q r) =
          IsRaised former posts (plain (item.Unlock former) ∷ rel) all (rel, d, refl) (whole ∙ ap (λ x. raised (max former m) former ∷ x) is) q r
      by former rest whole (IsCut up q r) = IsRaisedCut former rest up whole q r

  raises-into : (o : ℕ) (ms : List ℕ) (g : List Told) → Raised sys o own ms kept a k g → At sys o now kept (raises o own ms) a k g
  unfolding raising PublishesLast restoring
  raises-into o [] g (IsRaised former posts last all l is q r) =
      publishes-into sys o now kept a k own None [] g (IsPublished posts l.0 all l.1 (is ∙ ap (λ x. posts ++ x) l.2) q r)
  raises-into o [] g (IsRaisedCut former posts up is q r) =
      publishes-into sys o now kept a k own None [] g (IsCut (subst (λ x. PostsUpTo (ring_of sys) own [] x) (sym is) up) q r)
  raises-into zero (m ∷ others) g (IsRaised former posts last all l is q r) =
      publishes-into sys 0 now kept a k own None (m ∷ others) g (IsPublished posts l.0 all l.1 (is ∙ ap (λ x. posts ++ x) l.2) q r)
  raises-into zero (m ∷ others) g (IsRaisedCut former posts up is q r) =
      publishes-into sys 0 now kept a k own None (m ∷ others) g (IsCut (subst (λ x. PostsUpTo (ring_of sys) own (m ∷ others) x) (sym is) up) q r)
  raises-into (suc o) (m ∷ others) g (IsRaised former posts last all l is q r) =
      (at-raise sys (suc o) now kept a k own m others g).1 (
        former,
        posts ++ last,
        is,
        publishes-into sys (suc o) now kept a k own (Some former) (m ∷ others) (posts ++ last) (IsPublished posts l.0 all l.1 (ap (λ x. posts ++ x) l.2) q r),
      )
  raises-into (suc o) (m ∷ others) g (IsRaisedCut former posts up is q r) =
      (at-raise sys (suc o) now kept a k own m others g).1
      (former, posts, is, publishes-into sys (suc o) now kept a k own (Some former) (m ∷ others) posts (IsCut up q r))

module _ (sys : System) (o : ℕ) (now : Option Entry) (kept : List Entry) (a : Answer) (k : List Entry) where
  pub begin-publish : (room sig : ℕ) (pars : List ℕ) (reserve : Option ℕ) (g : List Told)
      → At sys o now kept (Begins room (call.Publish sig pars reserve)) a k g
      ↔ (Fits sys o now (call.Publish sig pars reserve) a g × KeepsDeferred room (call.Publish sig pars reserve) g kept k)
  unfolding stage_next begin_next Fits Publishes PublishesFirst NoBlockFor KeepsDeferred
  begin-publish room sig pars reserve g = (
    λ h. out (at-new-out sys o now kept a k sig pars reserve (ToSet sig) s unwhole (is_static sys sig) (λ body known. refl) g h),
    λ h. at-new-into sys o now kept a k sig pars reserve (ToSet sig) s unwhole (is_static sys sig) (λ body known. refl) g (into a refl h.0 h.1),
  )
    where
      s : CallStage
      s = Begins room (call.Publish sig pars reserve)

      unwhole : (b : Answer) → s ≡ Whole b → ⊥
      unwhole b h = cc

      no_block : (b : Answer) (reserve : Option ℕ) → NoBlockFor (is_static sys sig) (sizes_of sys) pars reserve b g
          → Publishes (is_static sys sig) (sizes_of sys) (ring_of sys) o sig pars reserve b g
      no_block Granted None n = absurd n
      no_block Granted (Some r) n = absurd n
      no_block AtQueue None n = absurd n
      no_block AtQueue (Some r) n = absurd n
      no_block b reserve n = n

      out : MadeNew (is_static sys sig) (sizes_of sys) sig pars reserve kept (λ e. At sys o now kept (Puts (ToSet sig) e) a k) a k g
          → Publishes (is_static sys sig) (sizes_of sys) (ring_of sys) o sig pars reserve a g × (k ≡ kept)
      out (HasNoBlock n q) = (no_block a reserve n, q)
      out (IsMade head e rest m is h) =
          let pub_ = (at-set sys o now kept a k sig e rest).0 h in
          by pub_.0 pub_.1 pub_.2 pub_.3 (raises-out sys now kept a k e o (members pub_.1) pub_.2 pub_.4)
        where
          by : (n set : ℕ) (more : List Told) → rest ≡ plain (item.Pub sig n set) ∷ more → Raised sys o e (members set) kept a k more
              → Publishes (is_static sys sig) (sizes_of sys) (ring_of sys) o sig pars reserve a g × (k ≡ kept)
          by n set more p (IsRaised former posts last all l q x y) =
              let whole : g ≡ (head ++ (plain (item.Pub sig n set) ∷ raising o former (members set))) ++ (posts ++ last) =
              is ∙ ap (λ z. head ++ z) (p ∙ ap (λ z. plain (item.Pub sig n set) ∷ z) q)
              ∙ sym (append_assoc head (plain (item.Pub sig n set) ∷ raising o former (members set)) (posts ++ last)) in (
                subst (λ b. Publishes (is_static sys sig) (sizes_of sys) (ring_of sys) o sig pars reserve b g) (sym x)
                    (e, former, members set, head ++ (plain (item.Pub sig n set) ∷ raising o former (members set)), posts, last, (head, n, set, m, refl, refl), all, l, whole),
                y,
              )
          by n set more p (IsRaisedCut former posts up q x y) =
              let whole : g ≡ (head ++ (plain (item.Pub sig n set) ∷ raising o former (members set))) ++ posts =
              is ∙ ap (λ z. head ++ z) (p ∙ ap (λ z. plain (item.Pub sig n set) ∷ z) q)
              ∙ sym (append_assoc head (plain (item.Pub sig n set) ∷ raising o former (members set)) posts) in (
                subst (λ b. Publishes (is_static sys sig) (sizes_of sys) (ring_of sys) o sig pars reserve b g) (sym x)
                    (e, former, members set, head ++ (plain (item.Pub sig n set) ∷ raising o former (members set)), posts, (head, n, set, m, refl, refl), up, whole),
                y,
              )

      put : (e : Entry) (former : ℕ) (ms : List ℕ) (first posts : List Told) → PublishesFirst (is_static sys sig) (sizes_of sys) o sig pars reserve e former ms first
          → g ≡ first ++ posts → Raised sys o e ms kept a k (raising o former ms ++ posts)
          → MadeNew (is_static sys sig) (sizes_of sys) sig pars reserve kept (λ e. At sys o now kept (Puts (ToSet sig) e) a k) a k g
      put e former ms first posts f is h =
          let whole : g ≡ f.0 ++ (plain (item.Pub sig f.1 f.2) ∷ (raising o former ms ++ posts)) =
          is ∙ ap (λ z. z ++ posts) f.5 ∙ append_assoc f.0 (plain (item.Pub sig f.1 f.2) ∷ raising o former ms) posts in
          let more : At sys o now kept (raises o e (members f.2)) a k (raising o former ms ++ posts) =
          subst (λ z. At sys o now kept (raises o e z) a k (raising o former ms ++ posts)) f.4 (raises-into sys now kept a k e o ms (raising o former ms ++ posts) h) in
          IsMade f.0 e _ f.3 whole ((at-set sys o now kept a k sig e _).1 (f.1, f.2, raising o former ms ++ posts, refl, more))

      into : (b : Answer) → a ≡ b → Publishes (is_static sys sig) (sizes_of sys) (ring_of sys) o sig pars reserve b g → k ≡ kept
          → MadeNew (is_static sys sig) (sizes_of sys) sig pars reserve kept (λ e. At sys o now kept (Puts (ToSet sig) e) a k) a k g
      into Granted q h r = put h.0 h.1 h.2 h.3 (h.4 ++ h.5) h.6 h.9 (IsRaised h.1 h.4 h.5 h.7 h.8 refl q r)
      into AtQueue q h r = put h.0 h.1 h.2 h.3 h.4 h.5 h.7 (IsRaisedCut h.1 h.4 h.6 refl q r)
      into b q h r = HasNoBlock (subst (λ x. NoBlockFor (is_static sys sig) (sizes_of sys) pars reserve x g) (sym q) h) r
