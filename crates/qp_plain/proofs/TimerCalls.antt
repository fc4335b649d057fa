-- Calls on time events.
use Rattle.std.proofs.Common.{◌≡◌, ℕ, zero, suc, ◌+◌, ◌-◌, ◌<◌, List, slice_set, refl, sym, ◌∙◌, ap, subst, arith, IsTrue}
use Rattle.qp_model.specs.declared.record.Rec.{Rec}
use Rattle.qp_model.specs.declared.words.Word.TheVariants as word
use Rattle.qp_model.specs.declared.bodies.Body.TheVariants.{Arm, Disarm, Rearm, Idle, Tick, Fire, Armed}
use Rattle.qp_model.specs.Record.{item_of}
use Rattle.qp_model.specs.TimeEvents.{Clock}
use Rattle.qp_model.specs.WordLaw.{is_timer}
use Rattle.qp_calls.specs.declared.answers.Arm.TheVariants as armed
use Rattle.qp_calls.specs.declared.answers.Tick.TheVariants as ticked
use Rattle.qp_calls.specs.Clauses.{CallArms, CallDisarms, CallRearms, AnswersTick, FewTries, draws_disarmed}
use Rattle.qp_plain_sound.specs.May.{May, HasTimerOps}
use Rattle.qp_plain_sound.specs.WordStates.{clock_in}
use Rattle.qp_plain_sound.proofs.CallSides.{arm-done, arm-refused, disarm-idle, disarm-done, rearm-done, tick-idle, tick-down, tick-fires}
use Rattle.qp_plain.specs.declared.book.Book.{Book}
use Rattle.qp_plain.specs.declared.world.PlainWorld.{PlainWorld}
use Rattle.qp_plain.specs.Book.{BookGains, lists_of}
use Rattle.qp_plain.specs.World.{WorldHolds}
use Rattle.qp_plain.specs.WorldView.{world_view}
use Rattle.qp_plain.proofs.Calling.{step_at, view_with, extends}
use Rattle.qp_plain.proofs.Turns.{now-seen, quiet, timer-moves, tries-drawn}

module _ (w : PlainWorld) (b : Book) (r : Rec) (gains : BookGains r w.book b) (less : b.here.spare + 1 ≡ w.book.here.spare)
    (t n c : ℕ) (q : Clock) (h : IsTrue (is_timer w.sys.now t)) (q_is : q ≡ clock_in (lists_of w.book) t) (n_is : n ≡ q.count) (c_is : c ≡ q.counter) where
  abbrev With : List Clock → Type 0
  With timers = WorldHolds w.sys.now (lists_of b) b.order.items w.pools.items w.blocks.items w.cells.items w.queues.items w.signals.items timers

  count_is : n ≡ (clock_in (lists_of w.book) t).count
  count_is = n_is ∙ ap (λ x. x.count) q_is

  now : (x : ℕ) → c ≡ x → HasTimerOps w.sys.now (lists_of w.book) t n x
  now x e = record { timer = h; number = count_is; is_counter = sym e ∙ c_is ∙ ap (λ y. y.counter) q_is }

  -- the time event is disarmed
  pub idle-holds : item_of r ≡ record { of = w.by; body = Idle t n } → c ≡ 0 → With w.timers.items
  unfolding May
  idle-holds says none = quiet w b r gains w.by (Idle t n) says (now 0 none) (λ v. refl)

  pub disarm-none : item_of r ≡ record { of = w.by; body = Idle t n } → c ≡ 0 → CallDisarms t (world_view w) (view_with w b) 0
  disarm-none says none = now-seen w b r gains (λ v. CallDisarms t (world_view w) v 0) (disarm-idle (step_at w b r) t n (extends w b r w.by (Idle t n) gains less says) (now 0 none))

  pub tick-none : item_of r ≡ record { of = w.by; body = Idle t n } → c ≡ 0 → AnswersTick t (world_view w) (view_with w b) ticked.Idle
  tick-none says none = now-seen w b r gains (λ v. AnswersTick t (world_view w) v ticked.Idle) (tick-idle (step_at w b r) t n (extends w b r w.by (Idle t n) gains less says) (now 0 none))

  -- it is armed already
  pub armed-holds : item_of r ≡ record { of = w.by; body = Armed t n c } → 0 < c → With w.timers.items
  unfolding May
  armed-holds says some = quiet w b r gains w.by (Armed t n c) says (now c refl, some) (λ v. refl)

  pub arm-not : (ticks interval : ℕ) → item_of r ≡ record { of = w.by; body = Armed t n c } → 0 < c → CallArms t ticks interval (world_view w) (view_with w b) (armed.Armed n c)
  arm-not ticks interval says some =
      now-seen w b r gains (λ v. CallArms t ticks interval (world_view w) v (armed.Armed n c))
      (arm-refused (step_at w b r) t n c ticks interval (extends w b r w.by (Armed t n c) gains less says) (now c refl) some)

  -- it is armed
  pub arm-holds : (ticks interval : ℕ) (next : Clock) → item_of r ≡ record { of = w.by; body = Arm t n ticks interval } → c ≡ 0
      → next ≡ record { count = q.count + 1; counter = ticks; interval = interval } → With (slice_set w.timers.items (t - 1) next)
  unfolding May
  arm-holds ticks interval next says none is =
      timer-moves w b r gains w.by (Arm t n ticks interval) says (now 0 none) t n next h refl count_is
      (is ∙ ap (λ (x : Clock). record { count = x.count + 1; counter = ticks; interval = interval }) q_is)

  pub arm-it : (ticks interval : ℕ) → item_of r ≡ record { of = w.by; body = Arm t n ticks interval } → c ≡ 0 → CallArms t ticks interval (world_view w) (view_with w b) armed.Done
  arm-it ticks interval says none =
      now-seen w b r gains (λ v. CallArms t ticks interval (world_view w) v armed.Done)
      (arm-done (step_at w b r) t n ticks interval (extends w b r w.by (Arm t n ticks interval) gains less says) (now 0 none))

  -- it is disarmed
  pub disarm-holds : (next : Clock) → item_of r ≡ record { of = w.by; body = Disarm t n c } → 0 < c
      → next ≡ record { count = q.count + 1; counter = 0; interval = q.interval } → With (slice_set w.timers.items (t - 1) next)
  unfolding May
  disarm-holds next says some is =
      timer-moves w b r gains w.by (Disarm t n c) says (now c refl, some) t n next h refl count_is
      (is ∙ ap (λ (x : Clock). record { count = x.count + 1; counter = 0; interval = x.interval }) q_is)

  pub disarm-it : item_of r ≡ record { of = w.by; body = Disarm t n c } → 0 < c → CallDisarms t (world_view w) (view_with w b) c
  disarm-it says some = go c refl
    where
      go : (k : ℕ) → c ≡ k → CallDisarms t (world_view w) (view_with w b) c
      go zero e = absurd (omega (arith, e, some))
      go (suc k) e =
          subst (λ x. CallDisarms t (world_view w) (view_with w b) x) (sym e)
          (now-seen w b r gains (λ v. CallDisarms t (world_view w) v (suc k))
          (disarm-done (step_at w b r) t n k (extends w b r w.by (Disarm t n (suc k)) gains less (says ∙ ap (λ x. record { of = w.by; body = Disarm t n x }) e)) (now (suc k) e)))

  pub disarm-tries : (steps after : ℕ) → item_of r ≡ record { of = w.by; body = Disarm t n c } → 0 < c → after ≡ steps + 1
      → FewTries (word.Timer t) (draws_disarmed c) steps after (world_view w) (view_with w b)
  disarm-tries steps after says some one = go c refl
    where
      go : (k : ℕ) → c ≡ k → FewTries (word.Timer t) (draws_disarmed c) steps after (world_view w) (view_with w b)
      go zero e = absurd (omega (arith, e, some))
      go (suc k) e =
          subst (λ x. FewTries (word.Timer t) (draws_disarmed x) steps after (world_view w) (view_with w b)) (sym e)
          (tries-drawn (word.Timer t) steps after (world_view w) (view_with w b) one (subst (λ x. CallDisarms t (world_view w) (view_with w b) x) e (disarm-it says some)).2)

  -- its counter is set
  pub rearm-holds : (ticks : ℕ) (next : Clock) → item_of r ≡ record { of = w.by; body = Rearm t n c ticks }
      → next ≡ record { count = q.count + 1; counter = ticks; interval = q.interval } → With (slice_set w.timers.items (t - 1) next)
  unfolding May
  rearm-holds ticks next says is =
      timer-moves w b r gains w.by (Rearm t n c ticks) says (now c refl) t n next h refl count_is
      (is ∙ ap (λ (x : Clock). record { count = x.count + 1; counter = ticks; interval = x.interval }) q_is)

  pub rearm-it : (ticks : ℕ) → item_of r ≡ record { of = w.by; body = Rearm t n c ticks } → CallRearms t ticks (world_view w) (view_with w b) c
  rearm-it ticks says =
      now-seen w b r gains (λ v. CallRearms t ticks (world_view w) v c)
      (rearm-done (step_at w b r) t n c ticks (extends w b r w.by (Rearm t n c ticks) gains less says) (now c refl))

  -- a tick
  pub tick-holds : (counter : ℕ) (next : Clock) → item_of r ≡ record { of = 0; body = Tick t n counter } → c ≡ counter + 1 → 0 < counter
      → next ≡ record { count = q.count + 1; counter = counter; interval = q.interval } → With (slice_set w.timers.items (t - 1) next)
  unfolding May
  tick-holds counter next says e some is =
      timer-moves w b r gains 0 (Tick t n counter) says (now (counter + 1) e, some) t n next h refl count_is
      (is ∙ ap (λ (x : Clock). record { count = x.count + 1; counter = counter; interval = x.interval }) q_is)

  pub tick-it : (counter : ℕ) → item_of r ≡ record { of = 0; body = Tick t n counter } → c ≡ counter + 1 → 0 < counter → AnswersTick t (world_view w) (view_with w b) ticked.Down
  tick-it counter says e some =
      now-seen w b r gains (λ v. AnswersTick t (world_view w) v ticked.Down)
      (tick-down (step_at w b r) t n counter (extends w b r 0 (Tick t n counter) gains less says) (now (counter + 1) e) some)

  pub fire-holds : (reload : ℕ) (next : Clock) → item_of r ≡ record { of = 0; body = Fire t n reload } → c ≡ 1 → reload ≡ q.interval
      → next ≡ record { count = q.count + 1; counter = q.interval; interval = q.interval } → With (slice_set w.timers.items (t - 1) next)
  unfolding May
  fire-holds reload next says e load is =
      timer-moves w b r gains 0 (Fire t n reload) says (now 1 e, load ∙ ap (λ x. x.interval) q_is) t n next h refl count_is
      (is ∙ ap (λ x. record { count = q.count + 1; counter = x; interval = q.interval }) (sym load) ∙ ap (λ (x : Clock). record { count = x.count + 1; counter = reload; interval = x.interval }) q_is)

  pub fire-it : (reload : ℕ) → item_of r ≡ record { of = 0; body = Fire t n reload } → c ≡ 1 → reload ≡ q.interval → AnswersTick t (world_view w) (view_with w b) ticked.Fired
  fire-it reload says e load =
      now-seen w b r gains (λ v. AnswersTick t (world_view w) v ticked.Fired)
      (tick-fires (step_at w b r) t n reload (extends w b r 0 (Fire t n reload) gains less says) (now 1 e) (load ∙ ap (λ x. x.interval) q_is))
