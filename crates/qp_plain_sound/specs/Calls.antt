-- What each call of a lane does, where its record comes next: the clause of the call holds between the views.
use Rattle.std.specs.Prelude.{◌≡◌, ℕ, suc, ◌+◌, ◌-◌, ◌<◌, ◌≤◌, true, false, List, [], ◌∷◌, length, IsTrue, IsFalse, Some}
use Rattle.std.specs.declared.option.Option.{Option}
use Rattle.std.specs.Option.{unwrap_or}
use Rattle.qp_chart.specs.StateTree.{has}
use Rattle.qp_model.specs.declared.record.Rec.{Rec}
use Rattle.qp_model.specs.declared.systems.System.{System}
use Rattle.qp_model.specs.declared.bodies.Entry as model
use Rattle.qp_model.specs.declared.bodies.Body.TheVariants.{Took, Nil, Seen, New, Inc, Dec, Back, Post, Lifo, Pub, Sub, Unsub, Same, Arm, Disarm, Rearm, Idle, Tick, Fire, Armed, NoLifo}
use Rattle.qp_model.specs.Record.{entry}
use Rattle.qp_model.specs.Told.{Event}
use Rattle.qp_model.specs.Sites.{ring_of}
use Rattle.qp_model.specs.Subscribers.{bits_of_set}
use Rattle.qp_model.specs.WordLaw.{is_object}
use Rattle.qp_calls.specs.Tokens.{Hold}
use Rattle.qp_calls.specs.declared.tokens.Fresh.{Fresh}
use Rattle.qp_calls.specs.declared.tokens.HeldEntry.{HeldEntry}
use Rattle.qp_calls.specs.declared.answers.Give.TheVariants as give
use Rattle.qp_calls.specs.declared.answers.Dec.TheVariants as dec
use Rattle.qp_calls.specs.declared.answers.Claim.TheVariants as claim
use Rattle.qp_calls.specs.declared.answers.Take.TheVariants as take
use Rattle.qp_calls.specs.declared.answers.Arm.TheVariants as armed
use Rattle.qp_calls.specs.declared.answers.Tick.TheVariants as ticked
use Rattle.qp_calls.specs.declared.answers.Counts as counts
use Rattle.qp_calls.specs.LaneView.{NotShown, Purse}
use Rattle.qp_calls.specs.Clauses.{EntryStands, StandsHold, StandsFresh, GivesBlock, Makes, MakesMore, LetsGo, GoesBack, ClaimsEntry, ClaimsFront, Takes, Sees, Counted, Subscribing, Unsubscribing, ReadsSubscribers, CallArms, CallDisarms, CallRearms, AnswersTick, IsEvent, entry_of, shortage_of, refusal_of, last_nil, same_counts}
use Rattle.qp_calls.specs.Deferring.{is_named}
use Rattle.qp_plain_sound.specs.WordStates.{pool_in, refs_in, line_in, set_in, clock_in, cell_in}
use Rattle.qp_plain_sound.specs.May.{MayGive, IsPool, IsQueue, HasSignalOps, HasTimerOps}
use Rattle.qp_plain_sound.specs.Sound.{SoundWorld}
use Rattle.qp_plain_sound.specs.Step.{WorldStep, before, behind, Extends}
use Rattle.qp_plain_sound.specs.View.{view_of}

-- Blocks.

-- a block is given out, where more blocks are free than the reserve
abbrev pub GiveIsDone : Type 0
GiveIsDone =
    (s : WorldStep) (p n b from : ℕ) (ev : Event) (reserve : Option ℕ) → Extends s s.by (New p n b from ev.sig ev.pars)
    → MayGive s.sys s.lanes p n b from ev → unwrap_or reserve 0 < length (pool_in s.sys s.lanes p).free
    → GivesBlock p reserve ev (before s) (behind s) (give.Given (record { pool = p; block = b; used = false }))

-- none is, where at most the reserve is free
abbrev pub GiveIsRefused : Type 0
GiveIsRefused =
    (s : WorldStep) (p n free : ℕ) (ev : Event) (reserve : Option ℕ) → Extends s s.by (shortage_of reserve p n free)
    → IsPool s.sys s.lanes p n free → free ≤ unwrap_or reserve 0
    → GivesBlock p reserve ev (before s) (behind s) (give.Short n free)

-- the first reference
abbrev pub FirstIsDone : Type 0
FirstIsDone =
    (s : WorldStep) (f : Fresh) (r : ℕ) → Extends s s.by (Inc f.pool f.block r) → StandsFresh f (before s)
    → IsFalse f.used
    → r ≡ (refs_in s.lanes f.pool f.block).count
    → Makes f.pool f.block 1 (before s) (behind s) (record { pool = f.pool; block = f.block; name = r })

-- another one
abbrev pub IncIsDone : Type 0
IncIsDone =
    (s : WorldStep) (h : Hold) (r : ℕ) → Extends s s.by (Inc h.pool h.block r) → StandsHold h (before s)
    → r ≡ (refs_in s.lanes h.pool h.block).count
    → MakesMore h (before s) (behind s) (record { pool = h.pool; block = h.block; name = r })

-- a reference is dropped, and others stand
abbrev pub DecKeeps : Type 0
DecKeeps =
    (s : WorldStep) (h : Hold) (d others : ℕ) → Extends s s.by (Dec h.pool h.block d h.name) → StandsHold h (before s)
    → d ≡ (refs_in s.lanes h.pool h.block).count → length (refs_in s.lanes h.pool h.block).names ≡ others + 2
    → LetsGo h (before s) (behind s) dec.Kept

-- or it was the last one
abbrev pub DecIsLast : Type 0
DecIsLast =
    (s : WorldStep) (h : Hold) (d : ℕ) → Extends s s.by (Dec h.pool h.block d h.name) → StandsHold h (before s)
    → d ≡ (refs_in s.lanes h.pool h.block).count → length (refs_in s.lanes h.pool h.block).names ≡ 1
    → LetsGo h (before s) (behind s) (dec.Last (record { pool = h.pool; block = h.block; used = true }))

-- a block comes back
abbrev pub BackIsDone : Type 0
BackIsDone =
    (s : WorldStep) (f : Fresh) (n to : ℕ) → Extends s s.by (Back f.pool n f.block to) → StandsFresh f (before s)
    → IsTrue f.used
    → n ≡ (pool_in s.sys s.lanes f.pool).count → to ≡ (refs_in s.lanes f.pool f.block).count
    → GoesBack f (before s) (behind s)

-- the event of a reference in the hands is what its block has
abbrev pub EventIsRead : Type 0
EventIsRead =
    (sys : System) (lanes : List (List Rec)) (order : List ℕ) (at spare by : ℕ) (stops answered : List ℕ) (purses : List Purse) (h : Hold) (ev : Event)
    → SoundWorld sys lanes order → StandsHold h (view_of sys lanes order at spare by stops answered purses)
    → cell_in lanes h.pool h.block ≡ Some ev
    → ((view_of sys lanes order at spare by stops answered purses).event (entry h.pool h.block h.name) ≡ ev) × IsEvent sys ev

-- the block of a reference in the hands is one of the system, and is given out with an event
abbrev pub HeldHasEvent : Type 0
HeldHasEvent =
    (sys : System) (lanes : List (List Rec)) (order : List ℕ) (at spare by : ℕ) (stops answered : List ℕ) (purses : List Purse) (h : Hold)
    → SoundWorld sys lanes order → StandsHold h (view_of sys lanes order at spare by stops answered purses)
    → (ev : Event) × (cell_in lanes h.pool h.block ≡ Some ev)

-- Queues.

-- an entry is posted, where more entries are free than the margin
abbrev pub ClaimIsDone : Type 0
ClaimIsDone =
    (s : WorldStep) (to f l m : ℕ) (e : HeldEntry) (margin : Option ℕ) → Extends s s.by (Post to (f + 1) l m (entry_of e))
    → EntryStands e (before s)
    → IsQueue s.sys s.lanes to f l m
    → unwrap_or margin 0 < ring_of s.sys to + 1 - length (line_in s.sys s.lanes to).entries
    → ClaimsEntry to e margin (before s) (behind s) claim.Done

abbrev pub ClaimIsRefused : Type 0
ClaimIsRefused =
    (s : WorldStep) (to f l m : ℕ) (e : HeldEntry) (margin : Option ℕ) → Extends s s.by (refusal_of margin to f l m)
    → IsQueue s.sys s.lanes to f l m
    → ring_of s.sys to + 1 - length (line_in s.sys s.lanes to).entries ≤ unwrap_or margin 0
    → ClaimsEntry to e margin (before s) (behind s) (claim.Short e f l m)

-- the same last-in, to the queue of the object set by `by`
abbrev pub LifoIsDone : Type 0
LifoIsDone =
    (s : WorldStep) (f l m : ℕ) (e : HeldEntry) → Extends s s.by (Lifo f (l + 1) m (entry_of e)) → EntryStands e (before s)
    → IsQueue s.sys s.lanes s.by f l m → length (line_in s.sys s.lanes s.by).entries ≤ ring_of s.sys s.by
    → ClaimsFront e (before s) (behind s) claim.Done

abbrev pub LifoIsRefused : Type 0
LifoIsRefused =
    (s : WorldStep) (f l m : ℕ) (e : HeldEntry) → Extends s s.by (NoLifo s.by f l m) → IsQueue s.sys s.lanes s.by f l m
    → length (line_in s.sys s.lanes s.by).entries ≡ ring_of s.sys s.by + 1
    → ClaimsFront e (before s) (behind s) (claim.Short e f l m)

-- the front entry is taken
abbrev pub TakeIsDone : Type 0
TakeIsDone =
    (s : WorldStep) (me f l m : ℕ) (e : HeldEntry) (others : List model.Entry) → Extends s me (Took f l (m + 1) (entry_of e))
    → IsTrue (is_named s.sys e)
    → IsQueue s.sys s.lanes me f l m → (line_in s.sys s.lanes me).entries ≡ entry_of e ∷ others
    → Takes me (before s) (behind s) (take.Taken e)

-- the queue is empty, and the lane tells it
abbrev pub TakeTellsNone : Type 0
TakeTellsNone =
    (s : WorldStep) (me f l m : ℕ) → Extends s me (Nil f l m) → IsQueue s.sys s.lanes me f l m
    → (line_in s.sys s.lanes me).entries ≡ []
    → IsFalse (same_counts (last_nil me NotShown (before s).told) f l m)
    → Takes me (before s) (behind s) (take.Empty f l m)

-- or it told the same before
abbrev pub TakeFindsNone : Type 0
TakeFindsNone =
    (sys : System) (lanes : List (List Rec)) (order : List ℕ) (at spare by : ℕ) (stops answered : List ℕ) (purses : List Purse) (me f l m : ℕ)
    → SoundWorld sys lanes order → IsQueue sys lanes me f l m → (line_in sys lanes me).entries ≡ []
    → IsTrue (same_counts (last_nil me NotShown (view_of sys lanes order at spare by stops answered purses).told) f l m)
    → Takes me (view_of sys lanes order at spare by stops answered purses) (view_of sys lanes order at spare by stops answered purses) (take.Empty f l m)

abbrev pub SeenIsDone : Type 0
SeenIsDone =
    (s : WorldStep) (p : ℕ) (c : counts.Counts) → Extends s 0 (Seen p c.f c.l c.m) → IsQueue s.sys s.lanes p c.f c.l c.m
    → Sees p (before s) (behind s) c

abbrev pub CountsAreRead : Type 0
CountsAreRead =
    (sys : System) (lanes : List (List Rec)) (order : List ℕ) (at spare by : ℕ) (stops answered : List ℕ) (purses : List Purse) (p : ℕ) (c : counts.Counts)
    → SoundWorld sys lanes order → IsQueue sys lanes p c.f c.l c.m
    → Counted p (view_of sys lanes order at spare by stops answered purses) (view_of sys lanes order at spare by stops answered purses) c

-- Signals.

abbrev pub SubscribeChanges : Type 0
SubscribeChanges =
    (s : WorldStep) (sig n : ℕ) → Extends s s.by (Sub sig n) → HasSignalOps s.sys s.lanes sig n
    → IsTrue (is_object s.sys s.by)
    → IsFalse (has (set_in s.lanes sig).members s.by)
    → Subscribing sig (before s) (behind s) true

abbrev pub SubscribeKeeps : Type 0
SubscribeKeeps =
    (s : WorldStep) (sig n : ℕ) → Extends s s.by (Same sig n) → HasSignalOps s.sys s.lanes sig n
    → IsTrue (has (set_in s.lanes sig).members s.by)
    → Subscribing sig (before s) (behind s) false

abbrev pub UnsubscribeChanges : Type 0
UnsubscribeChanges =
    (s : WorldStep) (sig n : ℕ) → Extends s s.by (Unsub sig n) → HasSignalOps s.sys s.lanes sig n
    → IsTrue (has (set_in s.lanes sig).members s.by)
    → Unsubscribing sig (before s) (behind s) true

abbrev pub UnsubscribeKeeps : Type 0
UnsubscribeKeeps =
    (s : WorldStep) (sig n : ℕ) → Extends s s.by (Same sig n) → HasSignalOps s.sys s.lanes sig n
    → IsFalse (has (set_in s.lanes sig).members s.by)
    → Unsubscribing sig (before s) (behind s) false

abbrev pub SubscribersAreRead : Type 0
SubscribersAreRead =
    (s : WorldStep) (sig n set : ℕ) → Extends s s.by (Pub sig n set) → HasSignalOps s.sys s.lanes sig n
    → set ≡ bits_of_set (set_in s.lanes sig).members
    → ReadsSubscribers sig (before s) (behind s) set

-- Time events.

abbrev pub ArmIsDone : Type 0
ArmIsDone =
    (s : WorldStep) (t n ticks interval : ℕ) → Extends s s.by (Arm t n ticks interval) → HasTimerOps s.sys s.lanes t n 0
    → CallArms t ticks interval (before s) (behind s) armed.Done

abbrev pub ArmIsRefused : Type 0
ArmIsRefused =
    (s : WorldStep) (t n c ticks interval : ℕ) → Extends s s.by (Armed t n c) → HasTimerOps s.sys s.lanes t n c → 0 < c
    → CallArms t ticks interval (before s) (behind s) (armed.Armed n c)

abbrev pub DisarmFindsIdle : Type 0
DisarmFindsIdle =
    (s : WorldStep) (t n : ℕ) → Extends s s.by (Idle t n) → HasTimerOps s.sys s.lanes t n 0
    → CallDisarms t (before s) (behind s) 0

abbrev pub DisarmIsDone : Type 0
DisarmIsDone =
    (s : WorldStep) (t n c : ℕ) → Extends s s.by (Disarm t n (suc c)) → HasTimerOps s.sys s.lanes t n (suc c)
    → CallDisarms t (before s) (behind s) (suc c)

abbrev pub RearmIsDone : Type 0
RearmIsDone =
    (s : WorldStep) (t n former ticks : ℕ) → Extends s s.by (Rearm t n former ticks) → HasTimerOps s.sys s.lanes t n former
    → CallRearms t ticks (before s) (behind s) former

abbrev pub TickFindsIdle : Type 0
TickFindsIdle =
    (s : WorldStep) (t n : ℕ) → Extends s s.by (Idle t n) → HasTimerOps s.sys s.lanes t n 0
    → AnswersTick t (before s) (behind s) ticked.Idle

abbrev pub TickGoesDown : Type 0
TickGoesDown =
    (s : WorldStep) (t n counter : ℕ) → Extends s 0 (Tick t n counter) → HasTimerOps s.sys s.lanes t n (counter + 1)
    → 0 < counter
    → AnswersTick t (before s) (behind s) ticked.Down

abbrev pub TickFires : Type 0
TickFires =
    (s : WorldStep) (t n reload : ℕ) → Extends s 0 (Fire t n reload) → HasTimerOps s.sys s.lanes t n 1
    → reload ≡ (clock_in s.lanes t).interval
    → AnswersTick t (before s) (behind s) ticked.Fired

-- All calls on blocks, on queues, on signals and on time events.
pub record CallsOnBlocks : Type 0 where
  pub given : GiveIsDone
  pub short : GiveIsRefused
  pub first : FirstIsDone
  pub another : IncIsDone
  pub kept : DecKeeps
  pub last : DecIsLast
  pub returned : BackIsDone
  pub read : EventIsRead
  pub held : HeldHasEvent

pub record CallsOnQueues : Type 0 where
  pub posted : ClaimIsDone
  pub full : ClaimIsRefused
  pub front : LifoIsDone
  pub front_full : LifoIsRefused
  pub taken : TakeIsDone
  pub told_empty : TakeTellsNone
  pub found_empty : TakeFindsNone
  pub seen : SeenIsDone
  pub counted : CountsAreRead

pub record CallsOnSignals : Type 0 where
  pub came : SubscribeChanges
  pub stayed : SubscribeKeeps
  pub went : UnsubscribeChanges
  pub stayed_away : UnsubscribeKeeps
  pub read : SubscribersAreRead

pub record CallsOnTimers : Type 0 where
  pub done : ArmIsDone
  pub refused : ArmIsRefused
  pub idle : DisarmFindsIdle
  pub disarmed : DisarmIsDone
  pub rearmed : RearmIsDone
  pub idle_tick : TickFindsIdle
  pub down : TickGoesDown
  pub fired : TickFires
