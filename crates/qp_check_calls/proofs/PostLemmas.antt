-- The records of calls that post a new event, or the one at hand once more.
use Rattle.std.proofs.Common.{◌≡◌, ◌↔◌, ℕ, zero, suc, List, [], ◌∷◌, ◌++◌, Some, None, refl, sym, ◌∙◌, ap, subst, inl, inr, append-nil}
use Rattle.std.specs.declared.option.Option.{Option}
use Rattle.qp_model.specs.declared.systems.System.{System}
use Rattle.qp_model.specs.declared.bodies.Entry.{Entry}
use Rattle.qp_model.specs.declared.bodies.Body.{Body}
use Rattle.qp_model.specs.Told.{Told, Known}
use Rattle.qp_model.specs.Calls as call
use Rattle.qp_model.specs.Calls.{Call, Answer, Granted, Refused, AtQueue, AtFront}
use Rattle.qp_model.specs.Sites.{ring_of}
use Rattle.qp_model.specs.Parts.{is_static, sizes_of}
use Rattle.qp_model.specs.Shapes.{Fits, MakesAgainNow, Posts, PostsFront, PostsNew, PostsNewFront, Forwards}
use Rattle.qp_model.specs.Deferral.{KeepsDeferred}
use Rattle.qp_check_calls.specs.CallState.{Ends, Goal, ToQueue, ToFront, CallStage, Begins, Refers, Puts, Whole}
use Rattle.qp_check_calls.specs.CallStateNext.{stage_next, begin_next, now_next, event_next, again, by_pool}
use Rattle.qp_check_calls.proofs.ReadLemmas.{At, at-stepped, at-ended, at-whole}
use Rattle.qp_check_calls.proofs.ReleaseLemmas.{at-again}
use Rattle.qp_check_calls.proofs.PutLemmas.{Queued, IsQueued, IsFull, HasNone, at-queue-out, at-queue-into}
use Rattle.qp_check_calls.proofs.FrontLemmas.{Fronted, IsFronted, HasNoFront, at-front-out, at-front-into, posts-head, head-posts, front-head, head-front}
use Rattle.qp_check_calls.proofs.NewLemmas.{MadeNew, HasNoBlock, IsMade, at-same, at-new-out, at-new-into}

module _ (sys : System) (o : ℕ) (now : Option Entry) (kept : List Entry) (a : Answer) (k : List Entry) where
  -- a post that ends the call
  pub at-posts : (to : ℕ) (margin : Option ℕ) (e : Entry) (g : List Told)
      → At sys o now kept (Puts (ToQueue to margin (Ends Granted)) e) a k g ↔ (Posts (ring_of sys to) to margin [] e a g × (k ≡ kept))
  unfolding Posts
  at-posts to margin e g =
      (λ h. out (at-queue-out sys o now kept a k to margin (Ends Granted) e g h), λ h. at-queue-into sys o now kept a k to margin (Ends Granted) e g (into a margin refl h.0 h.1))
    where
      out : Queued sys to margin e kept (At sys o now kept (Whole Granted) a k) a k g → Posts (ring_of sys to) to margin [] e a g × (k ≡ kept)
      out (IsQueued one rest p is more) =
          let last = (at-whole sys o now kept Granted a k rest).0 more in
          let whole : one ≡ g = sym (is ∙ ap (λ x. one ++ x) last.0 ∙ append-nil one) in
          (subst (λ x. Posts (ring_of sys to) to margin [] e x g) (sym last.1) (subst (λ x. Posts (ring_of sys to) to margin [] e Granted x) whole p), last.2)
      out (IsFull p q r) = (subst (λ x. Posts (ring_of sys to) to margin [] e x g) (sym q) p, r)
      out (HasNone p q r) = (subst (λ x. Posts (ring_of sys to) to margin [] e x g) (sym q) p, r)

      into : (b : Answer) (margin : Option ℕ) → a ≡ b → Posts (ring_of sys to) to margin [] e b g → k ≡ kept
          → Queued sys to margin e kept (At sys o now kept (Whole Granted) a k) a k g
      into Granted margin is p q = IsQueued g [] p (sym (append-nil g)) ((at-whole sys o now kept Granted a k []).1 (refl, is, q))
      into Refused (Some n) is p q = IsFull p is q
      into AtQueue None is p q = HasNone p is q
      into b margin is p q = absurd p

  -- a last-in post that ends the call
  pub at-posts-front : (e : Entry) (g : List Told) → At sys o now kept (Puts (ToFront None) e) a k g ↔ (PostsFront o [] e a g × (k ≡ kept))
  unfolding PostsFront
  at-posts-front e g =
      (λ h. out (at-front-out sys o now kept a k None e g h), λ h. at-front-into sys o now kept a k None e g (into a refl h.0 h.1))
    where
      out : Fronted o e kept (At sys o now kept (Whole Granted) a k) a k g → PostsFront o [] e a g × (k ≡ kept)
      out (IsFronted one rest p is more) =
          let last = (at-whole sys o now kept Granted a k rest).0 more in
          let whole : one ≡ g = sym (is ∙ ap (λ x. one ++ x) last.0 ∙ append-nil one) in
          (subst (λ x. PostsFront o [] e x g) (sym last.1) (subst (λ x. PostsFront o [] e Granted x) whole p), last.2)
      out (HasNoFront p q r) = (subst (λ x. PostsFront o [] e x g) (sym q) p, r)

      into : (b : Answer) → a ≡ b → PostsFront o [] e b g → k ≡ kept → Fronted o e kept (At sys o now kept (Whole Granted) a k) a k g
      into Granted is p q = IsFronted g [] p (sym (append-nil g)) ((at-whole sys o now kept Granted a k []).1 (refl, is, q))
      into AtFront is p q = HasNoFront p is q
      into b is p q = absurd p

  -- the entry that a step works on, once more
  abbrev pub Again : Goal → List Told → Type 0
  Again goal g = (head : List Told) × (e : Entry) × (rest : List Told) × MakesAgainNow now head e × (g ≡ head ++ rest) × At sys o now kept (Puts goal e) a k rest

  pub at-now : (goal : Goal) (s : CallStage)
      → ((body : Body) (known : Known) → stage_next sys o now kept s body known ≡ now_next sys o now kept goal body known)
      → ((b : Answer) → s ≡ Whole b → ⊥) → (g : List Told)
      → At sys o now kept s a k g
      ↔ Again goal g
  unfolding stage_next now_next event_next MakesAgainNow
  at-now goal s is_now more g = by now refl
    where
      by : (had : Option Entry) → now ≡ had → At sys o now kept s a k g
          ↔ ((head : List Told) × (e : Entry) × (rest : List Told) × MakesAgainNow had head e × (g ≡ head ++ rest) × At sys o now kept (Puts goal e) a k rest)
      by None is = (λ h. absurd (nothing g h), λ h. absurd h.3)
        where
          nothing : (g : List Told) → At sys o now kept s a k g → ⊥
          nothing [] h = more a (at-ended sys o now kept s a k h).0
          nothing (t ∷ g) h =
              let one = at-stepped sys o now kept s a k t g h in
              let dead : now_next sys o now kept goal t.body t.known ≡ None = rw is refl in
              let still : now_next sys o now kept goal t.body t.known ≡ Some one.0 = sym (is_now t.body t.known) ∙ one.1 in
              cc
      by (Some e) is = (
        λ h. (at-again sys o now kept a k goal e g).0 (at-same sys o now kept a k s (again goal e) same more g h),
        λ h. at-same sys o now kept a k (again goal e) s (λ body known. sym (same body known)) (λ b. unwhole b e.pool) g ((at-again sys o now kept a k goal e g).1 h),
      )
        where
          by_pools : (p : ℕ) (body : Body) (known : Known) → event_next p sys o kept goal e body known ≡ stage_next sys o now kept (by_pool p (Puts goal e) (Refers e.pool e.block goal)) body known
          by_pools zero body known = refl
          by_pools (suc p) body known = refl

          same : (body : Body) (known : Known) → stage_next sys o now kept s body known ≡ stage_next sys o now kept (again goal e) body known
          same body known = is_now body known ∙ ap (λ x. now_next sys o x kept goal body known) is ∙ by_pools e.pool body known

          unwhole : (b : Answer) (p : ℕ) → by_pool p (Puts goal e) (Refers e.pool e.block goal) ≡ Whole b → ⊥
          unwhole b zero h = cc
          unwhole b (suc p) h = cc

  unwhole-begins : (room : ℕ) (x : Call) (b : Answer) → Begins room x ≡ Whole b → ⊥
  unwhole-begins room x b h = cc

  pub begin-post : (room to sig : ℕ) (pars : List ℕ) (margin reserve : Option ℕ) (g : List Told)
      → At sys o now kept (Begins room (call.Post to sig pars margin reserve)) a k g
      ↔ (Fits sys o now (call.Post to sig pars margin reserve) a g × KeepsDeferred room (call.Post to sig pars margin reserve) g kept k)
  unfolding stage_next begin_next Fits PostsNew KeepsDeferred
  begin-post room to sig pars margin reserve g = (
    λ h. out (at-new-out sys o now kept a k sig pars reserve goal s (unwhole-begins room x) (is_static sys sig) (λ body known. refl) g h),
    λ h. at-new-into sys o now kept a k sig pars reserve goal s (unwhole-begins room x) (is_static sys sig) (λ body known. refl) g (into h.0 h.1),
  )
    where
      x : Call
      x = call.Post to sig pars margin reserve

      goal : Goal
      goal = ToQueue to margin (Ends Granted)

      s : CallStage
      s = Begins room x

      out : MadeNew (is_static sys sig) (sizes_of sys) sig pars reserve kept (λ e. At sys o now kept (Puts goal e) a k) a k g
          → PostsNew (is_static sys sig) (sizes_of sys) (ring_of sys to) to sig pars margin reserve a g × (k ≡ kept)
      out (HasNoBlock n q) = (inl n, q)
      out (IsMade head e rest m is h) =
          let posts = (at-posts to margin e rest).0 h in
          (inr (head, e, m, subst (λ x. Posts (ring_of sys to) to margin head e a x) (sym is) (head-posts (ring_of sys to) to margin head e a rest posts.0)), posts.1)

      into : PostsNew (is_static sys sig) (sizes_of sys) (ring_of sys to) to sig pars margin reserve a g → k ≡ kept
          → MadeNew (is_static sys sig) (sizes_of sys) sig pars reserve kept (λ e. At sys o now kept (Puts goal e) a k) a k g
      into (inl n) q = HasNoBlock n q
      into (inr h) q =
          let parts = posts-head (ring_of sys to) to margin h.0 h.1 a g h.3 in
          IsMade h.0 h.1 parts.0 h.2 parts.1 ((at-posts to margin h.1 parts.0).1 (parts.2, q))

  pub begin-lifo : (room sig : ℕ) (pars : List ℕ) (reserve : Option ℕ) (g : List Told)
      → At sys o now kept (Begins room (call.Lifo sig pars reserve)) a k g
      ↔ (Fits sys o now (call.Lifo sig pars reserve) a g × KeepsDeferred room (call.Lifo sig pars reserve) g kept k)
  unfolding stage_next begin_next Fits PostsNewFront KeepsDeferred
  begin-lifo room sig pars reserve g = (
    λ h. out (at-new-out sys o now kept a k sig pars reserve (ToFront None) s (unwhole-begins room x) (is_static sys sig) (λ body known. refl) g h),
    λ h. at-new-into sys o now kept a k sig pars reserve (ToFront None) s (unwhole-begins room x) (is_static sys sig) (λ body known. refl) g (into h.0 h.1),
  )
    where
      x : Call
      x = call.Lifo sig pars reserve

      s : CallStage
      s = Begins room x

      out : MadeNew (is_static sys sig) (sizes_of sys) sig pars reserve kept (λ e. At sys o now kept (Puts (ToFront None) e) a k) a k g
          → PostsNewFront (is_static sys sig) (sizes_of sys) o sig pars reserve a g × (k ≡ kept)
      out (HasNoBlock n q) = (inl n, q)
      out (IsMade head e rest m is h) =
          let posts = (at-posts-front e rest).0 h in
          (inr (head, e, m, subst (λ x. PostsFront o head e a x) (sym is) (head-front o head e a rest posts.0)), posts.1)

      into : PostsNewFront (is_static sys sig) (sizes_of sys) o sig pars reserve a g → k ≡ kept
          → MadeNew (is_static sys sig) (sizes_of sys) sig pars reserve kept (λ e. At sys o now kept (Puts (ToFront None) e) a k) a k g
      into (inl n) q = HasNoBlock n q
      into (inr h) q =
          let parts = front-head o h.0 h.1 a g h.3 in
          IsMade h.0 h.1 parts.0 h.2 parts.1 ((at-posts-front h.1 parts.0).1 (parts.2, q))

  pub begin-forward : (room to : ℕ) (margin : Option ℕ) (g : List Told)
      → At sys o now kept (Begins room (call.Forward to margin)) a k g
      ↔ (Fits sys o now (call.Forward to margin) a g × KeepsDeferred room (call.Forward to margin) g kept k)
  unfolding stage_next begin_next Fits Forwards KeepsDeferred
  begin-forward room to margin g = (λ h. out (again.0 h), λ h. again.1 (into h.0 h.1))
    where
      x : Call
      x = call.Forward to margin

      goal : Goal
      goal = ToQueue to margin (Ends Granted)

      again : At sys o now kept (Begins room x) a k g ↔ Again goal g
      again = at-now goal (Begins room x) (λ body known. refl) (unwhole-begins room x) g

      out : Again goal g → Forwards (ring_of sys to) now to margin a g × (k ≡ kept)
      out h =
          let posts = (at-posts to margin h.1 h.2).0 h.5 in
          ((h.0, h.1, h.3, subst (λ x. Posts (ring_of sys to) to margin h.0 h.1 a x) (sym h.4) (head-posts (ring_of sys to) to margin h.0 h.1 a h.2 posts.0)), posts.1)

      into : Forwards (ring_of sys to) now to margin a g → k ≡ kept → Again goal g
      into h q =
          let parts = posts-head (ring_of sys to) to margin h.0 h.1 a g h.3 in
          (h.0, h.1, parts.0, h.2, parts.1, (at-posts to margin h.1 parts.0).1 (parts.2, q))
