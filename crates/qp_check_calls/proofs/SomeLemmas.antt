-- Where the rest of a call is open, some records are what is left.
use Rattle.std.proofs.Common.{◌≡◌, ℕ, ◌+◌, nat_lt, max, Bool, true, false, ◌||◌, List, [], ◌∷◌, ◌++◌, length, Some, None, is_some, refl, sym, subst, inl}
use Rattle.std.specs.declared.option.Option.{Option}
use Rattle.qp_model.specs.declared.systems.System.{System}
use Rattle.qp_model.specs.declared.bodies.Entry.{Entry}
use Rattle.qp_model.specs.declared.bodies.Body.{Body}
use Rattle.qp_model.specs.declared.bodies.Body.TheVariants as item
use Rattle.qp_model.specs.Record.{entry}
use Rattle.qp_model.specs.Told.{Told, Known, plain, dropped, raised}
use Rattle.qp_model.specs.Calls as call
use Rattle.qp_model.specs.Calls.{Call, Answer, Granted, Refused, Flushed, AtQueue, AtPool, AtTicks, AtFront}
use Rattle.qp_model.specs.Parts.{is_static, sizes_of, first_pool, members, timer_number}
use Rattle.qp_model.specs.Shapes.{Fits, NoBlockFor, MakesNew, MakesAgainNow, Posts, PostsFront, Subscribes, Unsubscribes, Arms, Rearms, Disarms, ticks_fit}
use Rattle.qp_model.specs.Shapes as shapes
use Rattle.qp_model.specs.Deferral.{KeepsDeferred}
use Rattle.qp_model.specs.Able.{has_pool}
use Rattle.qp_model.proofs.Completes.{release, release_drops, again_any, pool_number}
use Rattle.qp_check_calls.specs.CallState.{Behind, Ends, FlushesOn, PublishesOn, Goal, ToQueue, ToFront, ToDeferred, ToSet, CallStage, Begins, Refers, Puts, Raises, Restores, Drops, Returns, Flushes, Whole}
use Rattle.qp_check_calls.specs.CallStateNext.{stage_next, begin_next, defer_next, new_next, now_next, released, again, restored, publishes_on, flushes_on, goes_on, call_state_begin}
use Rattle.qp_check_calls.specs.Reads.{IsRestOfCall, stage_open, IsOpen, call_able}
use Rattle.qp_check_calls.specs.CallStateLaws.{OpenReads}
use Rattle.qp_check_calls.proofs.ReadLemmas.{At, at-step, at-end}
use Rattle.qp_check_calls.proofs.ReleaseLemmas.{at-refers, at-returns, at-drops, at-released, at-release, at-again}
use Rattle.qp_check_calls.proofs.PutLemmas.{IsFull, HasNone, at-queue-into}
use Rattle.qp_check_calls.proofs.FrontLemmas.{HasNoFront, at-front-into, at-deferred}
use Rattle.qp_check_calls.proofs.NewLemmas.{HasNoBlock, IsMade, at-new-into}
use Rattle.qp_check_calls.proofs.PostLemmas.{at-now}
use Rattle.qp_check_calls.proofs.PublishLemmas.{at-restored, at-raise, at-set}
use Rattle.qp_check_calls.proofs.BeginLemmas.{reads-begin}
use Rattle.qp_model.proofs.RecordLemmas.{same_entry-refl}

-- what a release of the entry may be
drops_any : (e : Entry) → shapes.Drops e (release e.pool e)
unfolding shapes.Drops
drops_any e = release_drops e.pool e

module _ (sys : System) (o : ℕ) (now : Option Entry) where
  abbrev Some_at : List Entry → CallStage → Type 0
  Some_at kept s = (a : Answer) × (k : List Entry) × (g : List Told) × At sys o now kept s a k g

  some-whole : (kept : List Entry) (b : Answer) → Some_at kept (Whole b)
  some-whole kept b = (b, kept, [], at-end sys o now kept b)

  some-release : (kept : List Entry) (e : Entry) (b : Answer) → Some_at kept (released e (Whole b) (Ends b))
  some-release kept e b = (b, kept, release e.pool e, (at-release sys o now kept b kept e b (release e.pool e)).1 (drops_any e, refl, refl))

  some-released : (kept : List Entry) (e : Entry) (behind : Behind) → Some_at kept (goes_on kept behind) → Some_at kept (released e (goes_on kept behind) behind)
  some-released kept e behind h =
      (h.0, h.1, release e.pool e ++ h.2, (at-released sys o now kept h.0 h.1 e behind (release e.pool e ++ h.2)).1 (release e.pool e, h.2, drops_any e, refl, h.3))

  some-queue : (kept : List Entry) (to : ℕ) (margin : Option ℕ) (behind : Behind) (e : Entry) → Some_at kept (Puts (ToQueue to margin behind) e)
  unfolding Posts
  some-queue kept to None behind e =
      (AtQueue, kept, plain (item.NoEntry to 0 0 0) ∷ [], at-queue-into sys o now kept AtQueue kept to None behind e _ (HasNone (0, 0, 0, refl) refl refl))
  some-queue kept to (Some n) behind e = (
    Refused,
    kept,
    plain (item.Full to 0 0 0 n) ∷ release e.pool e,
    at-queue-into sys o now kept Refused kept to (Some n) behind e _ (IsFull (0, 0, 0, release e.pool e, refl, drops_any e) refl refl),
  )

  some-again : (kept : List Entry) (goal : Goal) (e : Entry) → ((made : Entry) → Some_at kept (Puts goal made)) → Some_at kept (again goal e)
  some-again kept goal e h =
      let made = again_any e in
      let more = h made.1 in
      (more.0, more.1, made.0 ++ more.2, (at-again sys o now kept more.0 more.1 goal e (made.0 ++ more.2)).1 (made.0, made.1, more.2, made.2, refl, more.3))

  some-restored : (kept : List Entry) (own : Entry) (former : Option ℕ) → Some_at kept (restored own former)
  some-restored kept own None = some-release kept own Granted
  some-restored kept own (Some former) = (
    Granted,
    kept,
    plain (item.Unlock former) ∷ release own.pool own,
    (at-restored sys o now kept Granted kept own (Some former) _).1 (release own.pool own, drops_any own, refl, refl, refl),
  )

  some-publishes : (kept : List Entry) (own : Entry) (former : Option ℕ) (ms : List ℕ) → Some_at kept (publishes_on own former ms)
  some-publishes kept own former [] = some-restored kept own former
  some-publishes kept own former (m ∷ others) = some-again kept _ own (λ made. some-queue kept m None (PublishesOn own former others) made)

  some-put : (kept : List Entry) (goal : Goal) (e : Entry) → Some_at kept (Puts goal e)
  unfolding PostsFront members
  some-put kept (ToQueue to margin behind) e = some-queue kept to margin behind e
  some-put kept (ToFront recalled) e =
      (AtFront, kept, plain (item.NoLifo o 0 0 0) ∷ [], at-front-into sys o now kept AtFront kept recalled e _ (HasNoFront (0, 0, 0, refl) refl refl))
  some-put kept ToDeferred e =
      (Granted, kept ++ e ∷ [], plain (item.Defer e) ∷ [], (at-deferred sys o now kept Granted (kept ++ e ∷ []) e _).1 (refl, refl, refl))
  some-put kept (ToSet sig) e =
      let more = some-restored kept e None in
      (more.0, more.1, plain (item.Pub sig 0 0) ∷ more.2, (at-set sys o now kept more.0 more.1 sig e _).1 (0, 0, more.2, refl, more.3))

  some-flushes : (kept : List Entry) (total : ℕ) → Some_at kept (flushes_on total kept)
  unfolding stage_next
  some-flushes [] total = some-whole [] (Flushed total)
  some-flushes (x ∷ xs) total =
      let more = some-released xs x (FlushesOn total) (some-flushes xs total) in (
        more.0,
        more.1,
        plain (item.Flush x) ∷ more.2,
        at-step sys o now (x ∷ xs) (Flushes total) (released x (flushes_on total xs) (FlushesOn total)) more.0 more.1 _ more.2 (rw (same_entry-refl x) refl) more.3,
      )

  some-goes : (kept : List Entry) (behind : Behind) → Some_at kept (goes_on kept behind)
  some-goes kept (Ends b) = some-whole kept b
  some-goes kept (FlushesOn total) = some-flushes kept total
  some-goes kept (PublishesOn own former others) = some-publishes kept own former others

  some-drops : (kept : List Entry) (e : Entry) (behind : Behind) → Some_at kept (Drops e behind)
  some-drops kept e behind =
      let more = some-goes kept behind in (
        more.0,
        more.1,
        dropped e.pool e.block 0 e.name 1 ∷ more.2,
        (at-drops sys o now kept more.0 more.1 e behind _).1 (dropped e.pool e.block 0 e.name 1 ∷ [], more.2, inl (0, 0, refl), refl, more.3),
      )

  some-new : (kept : List Entry) (sig : ℕ) (pars : List ℕ) (reserve : Option ℕ) (goal : Goal) (s : CallStage) → ((b : Answer) → s ≡ Whole b → ⊥)
      → ((body : Body) (known : Known) → stage_next sys o now kept s body known ≡ new_next (is_static sys sig) sys o kept sig pars reserve goal body known)
      → has_pool sys sig (length pars) ≡ true → Some_at kept s
  unfolding has_pool MakesNew NoBlockFor
  some-new kept sig pars reserve goal s more is_new able = by (is_static sys sig) is_new able reserve refl
    where
      by : (fixed : Bool) → ((body : Body) (known : Known) → stage_next sys o now kept s body known ≡ new_next fixed sys o kept sig pars reserve goal body known)
          → (fixed || is_some (first_pool (sizes_of sys) (length pars))) ≡ true → (r : Option ℕ) → reserve ≡ r → Some_at kept s
      by true is_new able r is =
          let put = some-put kept goal (entry 0 sig 0) in
          (put.0, put.1, put.2, at-new-into sys o now kept put.0 put.1 sig pars reserve goal s more true is_new put.2 (IsMade [] (entry 0 sig 0) put.2 (refl, refl) refl put.3))
      by false is_new able None is =
          let pool = pool_number (first_pool (sizes_of sys) (length pars)) able in
          let g : List Told = plain (item.NoBlock pool.0 0 0) ∷ [] in (
            AtPool,
            kept,
            g,
            at-new-into sys o now kept AtPool kept sig pars reserve goal s more false is_new g
                (HasNoBlock (subst (λ r. NoBlockFor false (sizes_of sys) pars r AtPool g) (sym is) (pool.0, 0, 0, refl, pool.1, refl)) refl),
          )
      by false is_new able (Some n) is =
          let pool = pool_number (first_pool (sizes_of sys) (length pars)) able in
          let g : List Told = plain (item.Short pool.0 0 0 n) ∷ [] in (
            Refused,
            kept,
            g,
            at-new-into sys o now kept Refused kept sig pars reserve goal s more false is_new g
                (HasNoBlock (subst (λ r. NoBlockFor false (sizes_of sys) pars r Refused g) (sym is) (pool.0, 0, 0, refl, pool.1, refl)) refl),
          )

  some-now : (kept : List Entry) (goal : Goal) (s : CallStage) → ((b : Answer) → s ≡ Whole b → ⊥)
      → ((body : Body) (known : Known) → stage_next sys o now kept s body known ≡ now_next sys o now kept goal body known) → is_some now ≡ true → Some_at kept s
  unfolding MakesAgainNow
  some-now kept goal s more is_now able = by now refl able
    where
      by : (had : Option Entry) → now ≡ had → is_some had ≡ true → Some_at kept s
      by None is able = absurd (cc)
      by (Some e) is able =
          let made = again_any e in
          let put = some-put kept goal made.1 in (
            put.0,
            put.1,
            made.0 ++ put.2,
            (at-now sys o now kept put.0 put.1 goal s is_now more (made.0 ++ put.2)).1
                (made.0, made.1, put.2, subst (λ x. MakesAgainNow x made.0 made.1) (sym is) made.2, refl, put.3),
          )

  unwhole : (room : ℕ) (x : Call) (b : Answer) → Begins room x ≡ Whole b → ⊥
  unwhole room x b h = cc

  -- a call that leaves one record, and the deferred list as it is
  one : (kept : List Entry) (room : ℕ) (x : Call) (s : CallStage) → call_state_begin room kept x ≡ record { stage = s; kept = kept } → (b : Answer) (t : Told)
      → Fits sys o now x b (t ∷ []) → KeepsDeferred room x (t ∷ []) kept kept → Some_at kept s
  one kept room x s is b t fits keeps =
      (b, kept, t ∷ [], subst (λ r. IsRestOfCall sys o now r b kept (t ∷ [])) is ((reads-begin sys o now room kept x b kept (t ∷ [])).1 (fits, keeps)))

  one-subscribe : (kept : List Entry) (room sig : ℕ) → Some_at kept (Begins room (call.Subscribe sig))
  unfolding Fits Subscribes KeepsDeferred
  one-subscribe kept room sig = one kept room (call.Subscribe sig) _ refl Granted (plain (item.Sub sig 0)) (0, refl) refl

  one-unsubscribe : (kept : List Entry) (room sig : ℕ) → Some_at kept (Begins room (call.Unsubscribe sig))
  unfolding Fits Unsubscribes KeepsDeferred
  one-unsubscribe kept room sig = one kept room (call.Unsubscribe sig) _ refl Granted (plain (item.Unsub sig 0)) (0, refl) refl

  one-disarm : (kept : List Entry) (room t : ℕ) → Some_at kept (Begins room (call.Disarm t))
  unfolding Fits Disarms KeepsDeferred
  one-disarm kept room t = one kept room (call.Disarm t) _ refl Refused (plain (item.Idle (timer_number sys.timers o t) 0)) (0, refl) refl

  one-arm : (kept : List Entry) (room t ticks interval : ℕ) → Some_at kept (Begins room (call.Arm t ticks interval))
  unfolding Fits Arms KeepsDeferred
  one-arm kept room t ticks interval = by (ticks_fit ticks interval) refl
    where
      by : (b : Bool) → ticks_fit ticks interval ≡ b → Some_at kept (Begins room (call.Arm t ticks interval))
      by true is = one kept room (call.Arm t ticks interval) _ refl Granted (plain (item.Arm (timer_number sys.timers o t) 0 ticks interval)) ((0, refl), is) refl
      by false is = one kept room (call.Arm t ticks interval) _ refl AtTicks (plain (item.BadTicks (timer_number sys.timers o t) ticks interval)) (refl, rw is refl) refl

  one-rearm : (kept : List Entry) (room t ticks : ℕ) → Some_at kept (Begins room (call.Rearm t ticks))
  unfolding Fits Rearms KeepsDeferred
  one-rearm kept room t ticks = by (ticks_fit ticks 0) refl
    where
      by : (b : Bool) → ticks_fit ticks 0 ≡ b → Some_at kept (Begins room (call.Rearm t ticks))
      by true is = one kept room (call.Rearm t ticks) _ refl Refused (plain (item.Rearm (timer_number sys.timers o t) 0 0 ticks)) ((0, refl), is) refl
      by false is = one kept room (call.Rearm t ticks) _ refl AtTicks (plain (item.BadTicks (timer_number sys.timers o t) ticks 0)) (refl, rw is refl) refl

  some-defer : (kept : List Entry) (room : ℕ) → is_some now ≡ true → Some_at kept (Begins room call.Defer)
  unfolding stage_next begin_next defer_next
  some-defer kept room able = by (nat_lt (length kept) room) refl
    where
      by : (b : Bool) → nat_lt (length kept) room ≡ b → Some_at kept (Begins room call.Defer)
      by true is = some-now kept ToDeferred (Begins room call.Defer) (unwhole room call.Defer) (λ body known. rw is refl) able
      by false is = (
        Refused,
        kept,
        plain item.NoDefer ∷ [],
        at-step sys o now kept (Begins room call.Defer) (Whole Refused) Refused kept (plain item.NoDefer) [] (rw is refl) (at-end sys o now kept Refused),
      )

  some-begins : (kept : List Entry) (room : ℕ) (x : Call) → stage_open sys now kept (Begins room x) ≡ true → Some_at kept (Begins room x)
  unfolding stage_next begin_next stage_open call_able
  some-begins kept room (call.Post to sig pars margin reserve) h = some-new kept sig pars reserve (ToQueue to margin (Ends Granted)) _ (unwhole room _) (λ body known. refl) h
  some-begins kept room (call.Lifo sig pars reserve) h = some-new kept sig pars reserve (ToFront None) _ (unwhole room _) (λ body known. refl) h
  some-begins kept room (call.Publish sig pars reserve) h = some-new kept sig pars reserve (ToSet sig) _ (unwhole room _) (λ body known. refl) h
  some-begins kept room (call.Forward to margin) h = some-now kept (ToQueue to margin (Ends Granted)) _ (unwhole room _) (λ body known. refl) h
  some-begins kept room call.Defer h = some-defer kept room h
  some-begins [] room call.Recall h = (Refused, [], plain item.NoRecall ∷ [], at-step sys o now [] _ (Whole Refused) Refused [] (plain item.NoRecall) [] refl (at-end sys o now [] Refused))
  some-begins (x ∷ xs) room call.Recall h =
      let more = some-again xs (ToFront (Some x)) x (λ made. some-put xs (ToFront (Some x)) made) in (
        more.0,
        more.1,
        plain (item.Recall x) ∷ more.2,
        at-step sys o now (x ∷ xs) _ (again (ToFront (Some x)) x) more.0 more.1 (plain (item.Recall x)) more.2 (rw (same_entry-refl x) refl) more.3,
      )
  some-begins kept room call.Flush h = absurd (cc)
  some-begins kept room (call.Subscribe sig) h = one-subscribe kept room sig
  some-begins kept room (call.Unsubscribe sig) h = one-unsubscribe kept room sig
  some-begins kept room (call.Arm t ticks interval) h = one-arm kept room t ticks interval
  some-begins kept room (call.Rearm t ticks) h = one-rearm kept room t ticks
  some-begins kept room (call.Disarm t) h = one-disarm kept room t

  some-stage : (kept : List Entry) (s : CallStage) → stage_open sys now kept s ≡ true → Some_at kept s
  unfolding stage_open
  some-stage kept (Begins room x) h = some-begins kept room x h
  some-stage kept (Refers p b goal) h =
      let more = some-put kept goal (entry p b 0) in
      (more.0, more.1, plain (item.Inc p b 0) ∷ more.2, (at-refers sys o now kept more.0 more.1 p b goal _).1 (0, more.2, refl, more.3))
  some-stage kept (Puts goal e) h = some-put kept goal e
  some-stage kept (Raises own m others) h =
      let more = some-publishes kept own (Some 0) (m ∷ others) in
      (more.0, more.1, raised (max 0 m) 0 ∷ more.2, (at-raise sys o now kept more.0 more.1 own m others _).1 (0, more.2, refl, more.3))
  some-stage kept (Restores own former) h = some-restored kept own (Some former)
  some-stage kept (Drops e behind) h = some-drops kept e behind
  some-stage kept (Returns p b d behind) h =
      let more = some-goes kept behind in
      (more.0, more.1, plain (item.Back p 0 b (d + 1)) ∷ more.2, (at-returns sys o now kept more.0 more.1 p b d behind _).1 (0, more.2, refl, more.3))
  some-stage [] (Flushes total) h = absurd (cc)
  some-stage (x ∷ xs) (Flushes total) h = some-flushes (x ∷ xs) total
  some-stage kept (Whole b) h = some-whole kept b

pub open-reads : OpenReads
unfolding IsOpen
open-reads sys o now rest h = some-stage sys o now rest.kept rest.stage h
