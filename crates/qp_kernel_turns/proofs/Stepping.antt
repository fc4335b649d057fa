-- A step that goes on: to its next scheduling point, to its end, to its assertion, or to where the lane has no room.
use Rattle.std.proofs.Common.{◌≡◌, ℕ, ◌+◌, ◌<◌, ◌≤◌, ◌==◌, cond, Bool, true, false, not, ◌||◌, ◌&&◌, List, [], ◌∷◌, ◌++◌, map, length, reverse, refl, sym, ◌∙◌, ap, subst, inl, inr, Option, Some, None, arith, append_assoc, append-nil, length-append}
use Rattle.std.specs.Prelude.{◌⊎◌}
use Rattle.std.specs.List.{AllByRecursion, list_all, list_any}
use Rattle.std.proofs.lemmas.Bool.{or_parts}
use Rattle.std.proofs.lemmas.Bool.Decides.{nat_tests}
use Rattle.qp_chart.specs.StateTree.{has}
use Rattle.qp_chart.specs.declared.checked.Chart.{Chart}
use Rattle.qp_model.specs.declared.systems.System.{System}
use Rattle.qp_model.specs.declared.systems.ObjectDef.{ObjectDef}
use Rattle.qp_model.specs.declared.bodies.Entry as model
use Rattle.qp_model.specs.declared.bodies.Body.TheVariants as body
use Rattle.qp_model.specs.Acts.{Config}
use Rattle.qp_model.specs.Course.{actor, chart_at, first_config}
use Rattle.qp_model.specs.Ends.{end_asserted, ends_last, is_assert, is_end, may_cut}
use Rattle.qp_model.specs.KernelLane.{Ended, Inside, Reading, Setting as Sitting, lane_next, lane_on, unread}
use Rattle.qp_model.specs.Lawful.{spill_cuts}
use Rattle.qp_model.specs.Pieces.{Piece, Point, tell}
use Rattle.qp_model.specs.Sites.{object_at}
use Rattle.qp_model.specs.Sound.{IsSound}
use Rattle.qp_model.specs.Step.{StepGoesOn, Remainder, moment}
use Rattle.qp_model.specs.Told.{Event, Told, ToldItem, for_object, plain, untold}
use Rattle.qp_model_order.specs.RunOrder.{has_stim}
use Rattle.qp_model_order.specs.SourceRun.{untold_all}
use Rattle.qp_calls.specs.Clauses.{entry_of}
use Rattle.qp_calls.specs.Deferring.{StandAll, is_named, kept_in}
use Rattle.qp_calls.specs.LaneView.{Gains, Grows, LaneView, ceiling_in}
use Rattle.qp_calls.specs.Notes.{last_code, spills_told, stop_code}
use Rattle.qp_dispatch.specs.declared.objects.Object.{Object}
use Rattle.qp_dispatch.specs.declared.lasting.Lasting.{Lasting}
use Rattle.qp_dispatch.specs.declared.steps.Position.{Position}
use Rattle.qp_dispatch.specs.declared.part.Under.{Under}
use Rattle.qp_dispatch.specs.Parts.{IsPublishing, held_by}
use Rattle.qp_dispatch.specs.Runs.{ObjectSetting, hand_of, tasks_in}
use Rattle.qp_model.specs.Able.{task_able}
use Rattle.qp_model.specs.Standing.{StepAdvances}
use Rattle.qp_calls.specs.declared.tokens.HeldEntry.{HeldEntry}
use Rattle.qp_calls.specs.declared.tokens.HeldEntry.TheVariants as token
use Rattle.std.specs.Option.{option_and_then}
use Rattle.qp_model.specs.declared.bodies.Body.{Body}
use Rattle.qp_model.specs.Knowing.{ceiling_after}
use Rattle.qp_kernel.proofs.CeilingLemmas.{ceiling-next}
use Rattle.qp_kernel.specs.Turning.{spill_told, Terms, kernel_in}
use Rattle.qp_dispatch.specs.declared.steps.Position.TheVariants as standing
use Rattle.qp_dispatch.specs.Lasts.{actor_of, config_of}
use Rattle.qp_dispatch.specs.Objects.{ObjectResumes, ResumesAs, setting_for, works_for}
use Rattle.qp_dispatch.specs.declared.steps.Step.{Step}
use Rattle.qp_dispatch.specs.declared.steps.Step.TheVariants as step
use Rattle.qp_kernel_turns.specs.BaseRows.{SameRow, reading_in}
use Rattle.qp_kernel_turns.specs.TurnRows.{RowStops, bare_row, idle_rows}
use Rattle.qp_kernel_turns.specs.Turning.{GoesOnward, TurnStopped}
use Rattle.std.proofs.lemmas.List.{length-map, reverse-append}
use Rattle.qp_chart_compiled.specs.Compiled.{IsCompiled}
use Rattle.qp_calls.specs.Deferring.{ChangeAlike}
use Rattle.qp_calls.proofs.NoteLemmas.{last-snoc}
use Rattle.qp_dispatch.specs.Resume.{CanTakeSteps as ObjectReady}
use Rattle.qp_dispatch.specs.Resume.{EndsAsserted, EndsSpilled, IsGoing, IsUnderWay, ToEnd, ToPoint, step_event, held_in, remainder_of, step_entry}
use Rattle.qp_kernel.specs.Happenings.{lanes_of}
use Rattle.qp_kernel.specs.Laws.{AllWait, OthersWait}
use Rattle.qp_kernel.specs.LaneZero.{owed_point, row_of, setting, told_pieces}
use Rattle.qp_kernel.specs.Stages as stage
use Rattle.qp_kernel.specs.Stages.{IsReady, Stage, closes, is_resting, may_wait}
use Rattle.qp_kernel.specs.Turning.{IsLookPlace, IsObject, IsWithinStep, KernelState, Stands, having, moved}
use Rattle.qp_kernel.proofs.KernelLaws.{assertion_ends_step, full_lane_ends, spill_ends_step, step_ends, step_pauses}
use Rattle.qp_kernel.proofs.TurnLemmas.{BehindIt, CutForm, WithinIt, cut-calm, cut-form, done-form, failed-form, inner-calm, inner-own, inner-unstim, point-inner}
use Rattle.qp_kernel.proofs.OrderGrowth.{in_order-grows}
use Rattle.qp_model.proofs.StepLemmas.{goes_on-completes}
use Rattle.qp_model.specs.OneOrder.{stim_of}
use Rattle.qp_model_order.specs.Placing.{LooksNone}
use Rattle.std.specs.Option.{is_some}
use Rattle.qp_kernel_turns.specs.declared.halting.Halt.TheVariants as halt
use Rattle.qp_kernel_turns.specs.Ordering.{InOrder, StopsInOrder}
use Rattle.qp_kernel_turns.proofs.BaseRows.{idle-is, reading-is}
use Rattle.qp_kernel_turns.proofs.Ends.{EndsFew, ends-few, ends-so}
use Rattle.qp_kernel_turns.proofs.Quiet.{IsQuiet, calm-items, done-quiet, gains-set, own-lookless, spill-last}
use Rattle.qp_kernel_turns.proofs.Ordered.{ends-in_order, grows-in_order, halts-behind, unstim-items}
use Rattle.qp_kernel.proofs.StageLemmas.{comes-within}
use Rattle.qp_kernel_turns.specs.declared.objects.Objects.{Objects}
use Rattle.qp_kernel_turns.specs.declared.objects.Slot.{Slot}
use Rattle.qp_kernel_turns.specs.Objects.{IsAt, MayResumeAt, PutsSlot, ResumesAt}
use Rattle.qp_kernel_turns.specs.Knowing.{Descends, HandsCover, HandsFollow, IsInTurn, IsLane, IsObjectWithChart, IsObjectAt, IsRunning, Knows, KnowsAt, KnowsObject, MayLook, StageIs, is_busy, is_paused, last_is}
use Rattle.qp_kernel_turns.proofs.Places.{cover-follows, follow-put}
use Rattle.qp_kernel_turns.proofs.SoundObjects.{able, numbered, ready}
use Rattle.qp_kernel_turns.proofs.Resting.{PassBy, pass-both, pass-kernel, pass-other}
use Rattle.qp_kernel_turns.proofs.Rows.{above-not}
use Rattle.qp_kernel_turns.proofs.Staying.{all-put, others-wait, paused-waits}
use Rattle.qp_kernel_turns.proofs.Halted.{agreed, last-told, same-lanes}
use Rattle.qp_kernel_turns.proofs.Closing.{closes-left}
use Rattle.qp_model.proofs.AbleLemmas.{some-same}
use Rattle.qp_dispatch.proofs.ResumeLemmas.{tasks-of}

-- the lane went on by records of p and of the kernel
pub record AddsAlone (p : ℕ) (v w : LaneView) : Type 0 where
  pub records : List ToldItem
  pub told : w.told ≡ v.told ++ records
  pub apart : (o : ℕ) → 0 < o → (p == o) ≡ false → PassBy o records

-- What is known of a busy object.

pub record IsBusy (sys : System) (d : ObjectDef) (chart : Chart) (x : Object) (v : LaneView) (s : Stage) : Type 0 where
  pub ev : Event
  pub e : model.Entry
  pub due : Remainder
  pub c : Config
  pub within : (s ≡ stage.Begun ev e due c) ⊎ (s ≡ stage.Paused ev e due c)
  pub turn : IsInTurn (setting_for sys chart x) ev e due c x v

pub busy-is : (sys : System) (d : ObjectDef) (chart : Chart) (x : Object) (v : LaneView) (s : Stage) → is_busy s ≡ true → StageIs sys d chart x v s → IsBusy sys d chart x v s
busy-is sys d chart x v (stage.Begun ev e due c) busy h = record { ev = ev; e = e; due = due; c = c; within = inl refl; turn = h }
busy-is sys d chart x v (stage.Paused ev e due c) busy h = record { ev = ev; e = e; due = due; c = c; within = inr refl; turn = h.2 }
busy-is sys d chart x v stage.Unstarted busy h = absurd (cc)
busy-is sys d chart x v (stage.Resting c) busy h = absurd (cc)

-- The lane, while it works for an object.

pub event-by : (st : Position) (o : ℕ) (v : LaneView) → step_event st (works_for o v) ≡ step_event st v
event-by standing.Between o v = refl
event-by (standing.Taken (token.Static sig)) o v = refl
event-by (standing.Taken (token.Pool h)) o v = refl
event-by (standing.Within g) o v = refl

pub left-by : (home : ObjectSetting) (k : Lasting) (st : Position) (o : ℕ) (v : LaneView) → remainder_of home k st (works_for o v) ≡ remainder_of home k st v
left-by home k standing.Between o v = refl
left-by home k (standing.Taken (token.Static sig)) o v = refl
left-by home k (standing.Taken (token.Pool h)) o v = refl
left-by home k (standing.Within g) o v = refl

stand-by : (es : List HeldEntry) (o : ℕ) (v : LaneView) → StandAll es v → StandAll es (works_for o v)
stand-by es o v h = record { named = h.named; counts = h.counts }

publishing-by : (u : Option Under) (o : ℕ) (v : LaneView) → IsPublishing u v → IsPublishing u (works_for o v)
publishing-by None o v h = tt
publishing-by (Some u) o v h = h

pub under-way-by : (home : ObjectSetting) (k : Lasting) (st : Position) (o : ℕ) (v : LaneView) → IsUnderWay home k st v → IsUnderWay home k st (works_for o v)
under-way-by home k standing.Between o v h = h
under-way-by home k (standing.Taken e) o v h = record { stand = stand-by (k.list.entries.items ++ e ∷ []) o v h.stand; few = h.few }
under-way-by home k (standing.Within g) o v h = record {
  hand = h.hand;
  is = h.is;
  may = h.may;
  able = h.able;
  publishing = publishing-by g.left.under o v h.publishing;
  stand = stand-by (held_by k g.left.under ++ h.hand ∷ []) o v h.stand;
  few = h.few;
}

-- The ceiling that the kernel's lane reads is that of its records.
reads-ceiling : (st : Sitting) (k m : Reading) (ts : List ToldItem) → lane_on st k (map untold ts) ≡ Some m → m.ceiling ≡ ceiling_in k.ceiling ts
unfolding lane_on ceiling_in
reads-ceiling st k m [] h = let same : k ≡ m = cc in sym (ap (λ (r : Reading). r.ceiling) same)
reads-ceiling st k m (t ∷ ts) h = by (lane_next st k (untold t)) refl (λ next e. reads-ceiling st next m ts e) h
  where
    by : (o : Option Reading) → lane_next st k (untold t) ≡ o → ((next : Reading) → lane_on st next (map untold ts) ≡ Some m → m.ceiling ≡ ceiling_in next.ceiling ts)
        → option_and_then (λ next. lane_on st next (map untold ts)) o ≡ Some m → m.ceiling ≡ ceiling_in (ceiling_after k.ceiling t.told.body) ts
    by None is go h = absurd (cc)
    by (Some next) is go h = go next h ∙ ap (λ c. ceiling_in c ts) (ceiling-next st k next (untold t) is)

pub ceiling-of : (sys : System) (terms : Terms) (s : KernelState) → Stands sys terms s → s.reading.ceiling ≡ ceiling_in 0 s.told
unfolding unread
ceiling-of sys terms s h = reads-ceiling (setting sys (kernel_in terms) s.now) (unread sys) s.reading s.told (h.read s.now (λ n le. refl))

-- The last record of lists.
pub code-behind : (xs ys : List ToldItem) → 0 < last_code ys → 0 < last_code (xs ++ ys)
unfolding last_code
code-behind [] ys h = h
code-behind (x ∷ []) [] h = absurd (omega (arith, h))
code-behind (x ∷ []) (y ∷ ys) h = h
code-behind (x ∷ z ∷ xs) ys h = code-behind (z ∷ xs) ys h

-- A `spill` behind the last record of p.
pub cuts-behind : (p n : ℕ) (ts : List ToldItem) → spill_cuts p (map untold (ts ++ spill_told n ∷ [])) ≡ last_is p ts
cuts-behind p n [] = refl
cuts-behind p n (t ∷ []) = refl
cuts-behind p n (t ∷ u ∷ []) = refl
cuts-behind p n (t ∷ u ∷ x ∷ ts) = cuts-behind p n (u ∷ x ∷ ts)

pub last-own : (p : ℕ) (ts : List ToldItem) (t : Told) (g : List Told) → last_is p (ts ++ map (for_object p) (t ∷ g)) ≡ true
last-own p ts t [] = last-told p ts t
last-own p ts t (u ∷ g) = subst (λ xs. last_is p xs ≡ true) (append_assoc ts (for_object p t ∷ []) (map (for_object p) (u ∷ g))) (last-own p (ts ++ for_object p t ∷ []) u g)

-- An assertion that stands, and stands last, is the last record.
pub ends-code : (ts : List ToldItem) → ends_last (map untold ts) ≡ true → list_any (λ i. is_assert i.body) (map untold ts) ≡ true → 0 < last_code ts
unfolding ends_last last_code
ends-code [] ends some = absurd (cc)
ends-code (t ∷ []) ends some = code t.told.body (subst (λ b. b ≡ true) (or-none (is_assert t.told.body)) some)
  where
    or-none : (b : Bool) → (b || false) ≡ b
    or-none true = refl
    or-none false = refl

    code : (b : Body) → is_assert b ≡ true → 0 < stop_code b
    code (body.NoEntry a f l m) h = omega arith
    code (body.NoBlock p n free) h = omega arith
    code (body.Armed t n c) h = omega arith
    code (body.BadTicks t n i) h = omega arith
    code (body.NoLifo a f l m) h = omega arith
    code _ h = absurd (cc)
ends-code (t ∷ u ∷ ts) ends some = by (is_assert t.told.body) refl ends some (ends-code (u ∷ ts))
  where
    assert-ends : (b : Body) → is_assert b ≡ true → is_end b ≡ true
    assert-ends (body.NoEntry a f l m) h = refl
    assert-ends (body.NoBlock p n free) h = refl
    assert-ends (body.Armed t n c) h = refl
    assert-ends (body.BadTicks t n i) h = refl
    assert-ends (body.NoLifo a f l m) h = refl
    assert-ends _ h = absurd (cc)

    behind : (b : Bool) → (not b && ends_last (map untold (u ∷ ts))) ≡ true → (b ≡ false) × (ends_last (map untold (u ∷ ts)) ≡ true)
    behind true h = absurd (cc)
    behind false h = (refl, h)

    by : (b : Bool) → is_assert t.told.body ≡ b → (not (is_end t.told.body) && ends_last (map untold (u ∷ ts))) ≡ true → (b || list_any (λ i. is_assert i.body) (map untold (u ∷ ts))) ≡ true
        → (ends_last (map untold (u ∷ ts)) ≡ true → list_any (λ i. is_assert i.body) (map untold (u ∷ ts)) ≡ true → 0 < last_code (u ∷ ts)) → 0 < last_code (u ∷ ts)
    by true is ends some go = let no = (behind (is_end t.told.body) ends).0 in let yes = assert-ends t.told.body is in let wrong : true ≡ false = sym yes ∙ no in absurd (cc)
    by false is ends some go = go (behind (is_end t.told.body) ends).1 some

front-calm : (xs ys : List Told) → list_any (λ t. is_end t.body) (xs ++ ys) ≡ false → list_any (λ t. is_end t.body) xs ≡ false
front-calm [] ys h = refl
front-calm (x ∷ xs) ys h = let parts = or_parts (is_end x.body) (list_any (λ t. is_end t.body) (xs ++ ys)) h in rw (parts.0, front-calm xs ys parts.1) refl

module _ (sys : System) (sound : IsSound sys) (terms : Terms) (looks : ℕ) (front : List ℕ) (p : ℕ) (xs : Objects) (v : LaneView)
    (k : Knows sys terms looks (front ++ p ∷ []) xs v) (at : IsRunning sys p k.state) where
  abbrev s : KernelState
  s = k.state

  -- the object at the top
  abbrev n : IsObjectWithChart sys p
  n = (subst (AllByRecursion (IsObjectWithChart sys)) at.step.running at.stack.named).0

  abbrev its : KnowsObject sys n.object n.chart xs v (s.stages n.object.priority) (length (s.entries n.object.priority))
  its = k.objects n.object n.chart n.found n.its

  abbrev x : Object
  x = its.slot.object

  abbrev home : ObjectSetting
  home = setting_for sys n.chart x

  abbrev V : LaneView
  V = works_for x.me v

  pub at-place : IsAt xs p its.slot
  at-place = subst (λ o. IsAt xs o its.slot) n.is its.there

  is-mine : x.me ≡ p
  is-mine = its.is.me ∙ n.is

  has-chart : chart_at sys x.chart ≡ Some n.chart
  has-chart = ap (chart_at sys) its.is.of ∙ n.its

  busy : IsBusy sys n.object n.chart x v (s.stages n.object.priority)
  busy = busy-is sys n.object n.chart x v (s.stages n.object.priority) (subst (λ o. is_busy (s.stages o) ≡ true) (sym n.is) at.under_way) its.is.stage

  turn : IsInTurn home busy.ev busy.e busy.due busy.c x v
  turn = busy.turn

  within : IsWithinStep (s.stages p) (step_event x.stage V) (step_entry x.stage) (remainder_of home x.lasting x.stage V) (config_of x.lasting)
  within = by busy.within
    where
      ev-is : busy.ev ≡ step_event x.stage V
      ev-is = turn.event ∙ sym (event-by x.stage x.me v)

      left-is : busy.due ≡ remainder_of home x.lasting x.stage V
      left-is = turn.left ∙ sym (left-by home x.lasting x.stage x.me v)

      at-p : s.stages p ≡ s.stages n.object.priority
      at-p = ap s.stages (sym n.is)

      entry-is : busy.e ≡ step_entry x.stage
      entry-is = turn.entry

      config-is : busy.c ≡ config_of x.lasting
      config-is = turn.config

      by : (s.stages n.object.priority ≡ stage.Begun busy.ev busy.e busy.due busy.c) ⊎ (s.stages n.object.priority ≡ stage.Paused busy.ev busy.e busy.due busy.c)
          → IsWithinStep (s.stages p) (step_event x.stage V) (step_entry x.stage) (remainder_of home x.lasting x.stage V) (config_of x.lasting)
      by (inl h) = inl (cc (at-p, h, ev-is, left-is, entry-is, config-is))
      by (inr h) = inr (cc (at-p, h, ev-is, left-is, entry-is, config-is))

  -- it may be resumed
  pub may-resume : MayResumeAt sys xs.ceiling p xs v
  may-resume = record {
    slot = its.slot;
    there = at-place;
    may = record {
      at = record {
        chart = n.chart;
        is = has-chart;
        ready = subst (λ o. ObjectReady sys o n.chart) (sym its.is.me) (ready sys sound n.object n.chart n.found n.its);
        compiled = its.is.compiled;
        lane = record {
          of = k.lane.of;
          mine = refl;
          serves = ap v.serves its.is.me ∙ k.lane.serves n.object n.found;
          told = k.lane.told;
          spills = k.lane.spills;
        };
      };
      under_way = under-way-by home x.lasting x.stage x.me v turn.under_way;
    };
  }

  -- Here the laws of the kernel's lane and the dispatcher speak of the same.
  is-actor : actor_of x.me n.chart x.lasting ≡ actor n.object n.chart
  is-actor = ap (λ o. record { o = o; chart = n.chart; room = x.lasting.list.entries.capacity }) its.is.me ∙ ap (λ r. record { o = n.object.priority; chart = n.chart; room = r }) its.is.room

  pub is-object : IsObject sys p n.object n.chart
  is-object = record { priority = n.is; found = n.found; its = n.its }

  positive : 0 < p
  positive = let one = numbered sys sound n.object n.found in omega (arith, n.is, one)

  none-outer : has at.outer p ≡ false
  none-outer = above-not p at.outer (subst Descends at.step.running at.stack.descends).0

  closing : closes (remainder_of home x.lasting x.stage V).tasks ≡ true
  closing =
      (comes-within sys (actor n.object n.chart) (first_config n.object) (s.entries n.object.priority) (told_pieces (setting sys (kernel_in terms) s.now) n.object.priority (unread sys) s.told ++ owed_point s.owed n.object.priority) (s.stages n.object.priority)
      (step_event x.stage V) (step_entry x.stage) (remainder_of home x.lasting x.stage V) (config_of x.lasting) (subst (λ o. IsWithinStep (s.stages o) (step_event x.stage V) (step_entry x.stage) (remainder_of home x.lasting x.stage V) (config_of x.lasting)) (sym n.is) within)
      (k.stands.pieces s.now (λ m le. refl) n.object n.chart n.found n.its)).1.closing

  -- the records of p at the end of the lane
  grown : (g : List Told) (mid : LaneView) → Grows g V mid → mid.told ≡ v.told ++ map (for_object p) g
  grown g mid h = h.told ∙ ap (λ o. v.told ++ map (for_object o) g) is-mine

  goes-as : (g : List Piece) (end : Option Config) → StepGoesOn V.sys (actor_of x.me n.chart x.lasting) (step_event x.stage V) (step_entry x.stage) (remainder_of home x.lasting x.stage V) (config_of x.lasting) g end
      → StepGoesOn sys (actor n.object n.chart) (step_event x.stage V) (step_entry x.stage) (remainder_of home x.lasting x.stage V) (config_of x.lasting) g end
  goes-as g end h =
      subst (λ a. StepGoesOn sys a (step_event x.stage V) (step_entry x.stage) (remainder_of home x.lasting x.stage V) (config_of x.lasting) g end) is-actor
      (subst (λ y. StepGoesOn y (actor_of x.me n.chart x.lasting) (step_event x.stage V) (step_entry x.stage) (remainder_of home x.lasting x.stage V) (config_of x.lasting) g end) k.lane.of h)

  now-of : (w : LaneView) → lanes_of w ≡ lanes_of v → s.now ≡ has_stim (lanes_of w)
  now-of w lanes = k.now ∙ ap has_stim (sym lanes)

  others : OthersWait sys s p
  others = others-wait sys s p at.outer at.step.running at.stack

  -- The row of looks at the base.

  was : reading_in sys terms v ≡ s.reading
  was = reading-is sys terms s v k.stands k.told k.now

  row-as : (t : KernelState) (w : LaneView) → Stands sys terms t → t.told ≡ w.told → t.now ≡ has_stim (lanes_of w) → t.reading.stepped ≡ s.reading.stepped → t.reading.idle ≡ s.reading.idle
      → SameRow (reading_in sys terms v) (reading_in sys terms w)
  row-as t w stands told now stepped idle =
      let is = reading-is sys terms t w stands told now in
      record { stepped = ap (λ r. r.stepped) is ∙ stepped ∙ ap (λ r. r.stepped) (sym was); idle = ap (λ r. r.idle) is ∙ idle ∙ ap (λ r. r.idle) (sym was) }

  stops-few : (w : LaneView) → idle_rows sys terms w ≤ s.reading.idle → idle_rows sys terms w ≤ idle_rows sys terms v + bare_row sys
  stops-few w few = let own = idle-is sys terms v s k.stands k.told k.now in omega (arith, few, own)

  -- An assertion.
  module _ (y : Lasting) (z : Position) (mid w : LaneView) (told : w.told ≡ mid.told) (lanes : lanes_of w ≡ lanes_of v) (a : EndsAsserted home x.lasting x.stage y z V mid) where
    asserted-told : w.told ≡ s.told ++ map (for_object p) a.g
    asserted-told = told ∙ ap (λ u. u.told) a.stops ∙ grown a.g a.mid a.grows ∙ ap (λ ts. ts ++ map (for_object p) a.g) (sym k.told)

    pub asserted-ends : (end : ℕ) → may_cut end ≡ true → EndsFew sys terms end s.reading.idle w.told (has_stim (lanes_of w))
    asserted-ends end cut =
        subst (λ ts. EndsFew sys terms end s.reading.idle ts (has_stim (lanes_of w))) (sym asserted-told)
        (assertion_ends_step sys terms end s (has_stim (lanes_of w)) p n.object n.chart at.outer a.g (step_event x.stage V) (step_entry x.stage) (remainder_of home x.lasting x.stage V) (config_of x.lasting)
        (numbered sys sound) (able sys sound) is-object positive k.stands (agreed s (has_stim (lanes_of w)) (now-of w lanes)) cut at.owed at.step within (goes-as (tell a.g) None a.goes) others)

    pub asserted-code : 0 < last_code w.told
    asserted-code =
        let form = failed-form sys (actor n.object n.chart) (step_event x.stage V) (step_entry x.stage) (remainder_of home x.lasting x.stage V) (config_of x.lasting) closing p a.g (goes-as (tell a.g) None a.goes) in
        rw asserted-told (code-behind s.told (map (for_object p) a.g) (ends-code (map (for_object p) a.g) form.ends form.asserts))

    pub asserted-alone : AddsAlone p v w
    asserted-alone = record {
      records = map (for_object p) a.g;
      told = asserted-told ∙ ap (λ ts. ts ++ map (for_object p) a.g) k.told;
      apart = λ o some other. pass-other o p a.g other;
    }

  -- A `spill`.
  module _ (y : Lasting) (z : Position) (mid w : LaneView) (told : w.told ≡ mid.told) (lanes : lanes_of w ≡ lanes_of v) (b : EndsSpilled home x.lasting x.stage y z V mid) where
    spilled-told : w.told ≡ s.told ++ (map (for_object p) b.g ++ spill_told (length b.mid.told) ∷ [])
    spilled-told =
        told ∙ ap (λ u. u.told) b.stops ∙ b.spills.told ∙ ap (λ ts. ts ++ spill_told (length b.mid.told) ∷ []) (grown b.g b.mid b.grows ∙ ap (λ ts. ts ++ map (for_object p) b.g) (sym k.told))
        ∙ append_assoc s.told (map (for_object p) b.g) (spill_told (length b.mid.told) ∷ [])

    count : length b.mid.told ≡ length s.told + length b.g
    count = ap length (grown b.g b.mid b.grows ∙ ap (λ ts. ts ++ map (for_object p) b.g) (sym k.told)) ∙ length-append s.told (map (for_object p) b.g) ∙ ap (λ i. length s.told + i) (length-map b.g (for_object p))

    calm : list_any (λ t. is_end t.body) b.g ≡ false
    calm = cut-calm sys (actor n.object n.chart) (step_event x.stage V) (step_entry x.stage) (remainder_of home x.lasting x.stage V) (config_of x.lasting) closing b.g b.begins.0 b.begins.1 b.begins.3
        (goes-as (tell b.g ++ b.begins.0) b.begins.1 b.begins.2)

    spilled-by : (end : ℕ) → may_cut end ≡ true → last_is p (s.told ++ map (for_object p) b.g) ≡ true → EndsFew sys terms end s.reading.idle (s.told ++ (map (for_object p) b.g ++ spill_told (length b.mid.told) ∷ [])) (has_stim (lanes_of w))
    spilled-by end cut last =
        spill_ends_step sys terms end s (has_stim (lanes_of w)) p n.object n.chart at.outer b.g (length b.mid.told) (step_event x.stage V) (step_entry x.stage) (remainder_of home x.lasting x.stage V) (config_of x.lasting) b.begins.0 b.begins.1
        (numbered sys sound) (able sys sound) is-object positive k.stands (agreed s (has_stim (lanes_of w)) (now-of w lanes)) cut at.owed at.step within calm (goes-as (tell b.g ++ b.begins.0) b.begins.1 b.begins.2) others
        (record {
          count = count;
          full = b.few;
          behind = ap (λ ts. spill_cuts p (map untold ts)) (sym (append_assoc s.told (map (for_object p) b.g) (spill_told (length b.mid.told) ∷ []))) ∙ cuts-behind p (length b.mid.told) (s.told ++ map (for_object p) b.g) ∙ last;
        })

    -- nothing was added before it
    spilled-first : (end : ℕ) → may_cut end ≡ true → b.g ≡ [] → is_paused (s.stages p) ≡ true → EndsFew sys terms end s.reading.idle (s.told ++ (map (for_object p) b.g ++ spill_told (length b.mid.told) ∷ [])) (has_stim (lanes_of w))
    spilled-first end cut none paused =
        subst (λ g. EndsFew sys terms end s.reading.idle (s.told ++ (map (for_object p) g ++ spill_told (length b.mid.told) ∷ [])) (has_stim (lanes_of w))) (sym none)
        (full_lane_ends sys terms end s (has_stim (lanes_of w)) (length b.mid.told) (numbered sys sound) (able sys sound) k.stands (agreed s (has_stim (lanes_of w)) (now-of w lanes)) cut
        (count ∙ ap (λ g. length s.told + length g) none ∙ omega arith) b.few all)
      where
        all : AllWait sys s
        all d found = by (p == d.priority) refl
          where
            by : (c : Bool) → (p == d.priority) ≡ c → may_wait (s.stages d.priority) ≡ true
            by true is = let equal : p ≡ d.priority = grind (arith, nat_tests) in subst (λ o. may_wait (s.stages o) ≡ true) equal (paused-waits (s.stages p) paused)
            by false is = others d found is

    spilled-at : (end : ℕ) → may_cut end ≡ true → (g : List Told) → b.g ≡ g → (c : Bool) → is_paused (s.stages p) ≡ c → EndsFew sys terms end s.reading.idle (s.told ++ (map (for_object p) b.g ++ spill_told (length b.mid.told) ∷ [])) (has_stim (lanes_of w))
    spilled-at end cut [] none true paused = spilled-first end cut none paused
    spilled-at end cut [] none false begun = spilled-by end cut (subst (λ g. last_is p (s.told ++ map (for_object p) g) ≡ true) (sym none) (subst (λ ts. last_is p ts ≡ true) (sym (append-nil s.told)) (at.behind begun)))
    spilled-at end cut (t ∷ g) is c paused = spilled-by end cut (subst (λ h. last_is p (s.told ++ map (for_object p) h) ≡ true) (sym is) (last-own p s.told t g))

    pub spilled-ends : (end : ℕ) → may_cut end ≡ true → EndsFew sys terms end s.reading.idle w.told (has_stim (lanes_of w))
    spilled-ends end cut = subst (λ ts. EndsFew sys terms end s.reading.idle ts (has_stim (lanes_of w))) (sym spilled-told) (spilled-at end cut b.g refl (is_paused (s.stages p)) refl)

    pub spilled-code : 0 < last_code w.told
    spilled-code =
        rw (spilled-told, sym (append_assoc s.told (map (for_object p) b.g) (spill_told (length b.mid.told) ∷ [])), last-snoc (s.told ++ map (for_object p) b.g) (spill_told (length b.mid.told))) (omega arith)

    pub spilled-alone : AddsAlone p v w
    spilled-alone = record {
      records = map (for_object p) b.g ++ spill_told (length b.mid.told) ∷ [];
      told = spilled-told ∙ ap (λ ts. ts ++ (map (for_object p) b.g ++ spill_told (length b.mid.told) ∷ [])) k.told;
      apart = λ o some other. pass-both o (map (for_object p) b.g) (spill_told (length b.mid.told) ∷ []) (pass-other o p b.g other) (pass-kernel o (plain (body.Spill (length b.mid.told))) some);
    }

  -- On to a scheduling point, or to the end.
  module _ (level : ℕ) (later : Slot) (mid w : LaneView) (zs : Objects) (w-is : w ≡ works_for v.by mid) (puts : PutsSlot xs zs p later) (at-level : zs.ceiling ≡ level) (threshold : later.threshold ≡ its.slot.threshold)
      (same : later.object ≡ record x { lasting = later.object.lasting; stage = later.object.stage }) where
    lanes-w : (g : List Told) → Grows g V mid → lanes_of w ≡ lanes_of v
    lanes-w g h = same-lanes v w (ap (λ u. u.plan) w-is ∙ h.plan) (ap (λ u. u.happened) w-is ∙ h.happened)

    told-w : (g : List Told) → Grows g V mid → s.told ++ map (for_object p) g ≡ w.told
    told-w g h = ap (λ ts. ts ++ map (for_object p) g) k.told ∙ sym (ap (λ u. u.told) w-is ∙ grown g mid h)

    sys-w : (g : List Told) → Grows g V mid → w.sys ≡ v.sys
    sys-w g h = ap (λ u. u.sys) w-is ∙ h.sys

    follow-w : ChangeAlike (map entry_of (held_in x.lasting x.stage)) (map entry_of (held_in later.object.lasting later.object.stage)) V mid → HandsFollow xs v zs w
    follow-w h = follow-put xs zs p its.slot later v w at-place puts (λ t. rw w-is (h t))

    lane-w : (g : List Told) → Grows g V mid → level ≡ ceiling_in 0 mid.told → spills_told mid.told ≡ false → IsLane sys zs.ceiling w
    lane-w g h ceiling none = record {
      of = sys-w g h ∙ k.lane.of;
      told = at-level ∙ ceiling ∙ sym (ap (λ u. ceiling_in 0 u.told) w-is);
      spills = rw w-is none;
      serves = λ d found. ap (λ u. u.serves d.priority) w-is ∙ h.serves d.priority ∙ k.lane.serves d found;
    }

    object-w : (st : Stage) → later.object.lasting.list.entries.capacity ≡ x.lasting.list.entries.capacity → list_all (is_named sys) (held_in later.object.lasting later.object.stage) ≡ true
        → StageIs sys n.object n.chart later.object w st → IsObjectAt sys n.object n.chart later w st (length (s.entries p))
    object-w st room named here = record {
      threshold = threshold ∙ its.is.threshold;
      me = ap (λ o. o.me) same ∙ its.is.me;
      of = ap (λ o. o.chart) same ∙ its.is.of;
      compiled = subst (λ o. IsCompiled n.chart o.compiled) (sym same) its.is.compiled;
      room = room ∙ its.is.room;
      named = named;
      taken = ap (λ o. o.taken) same ∙ its.is.taken ∙ ap (λ o. length (s.entries o)) n.is;
      stage = here;
    }

    started-w : later.object.started ≡ true
    started-w = ap (λ o. o.started) same ∙ turn.started

    home-w : setting_for sys n.chart later.object ≡ home
    home-w = ap (setting_for sys n.chart) same

    moved-other : (st : Stage) (o : ℕ) → (p == o) ≡ false → moved s.stages p st o ≡ s.stages o
    moved-other st o h = rw h refl

    apart-of : (o : ℕ) → has at.outer o ≡ true → (p == o) ≡ false
    apart-of o is = by (p == o) refl
      where
        by : (b : Bool) → (p == o) ≡ b → b ≡ false
        by false h = refl
        by true h =
            let equal : p ≡ o = grind (arith, nat_tests) in
            let wrong : has at.outer p ≡ true = subst (λ i. has at.outer i ≡ true) (sym equal) is in
            let never : true ≡ false = sym wrong ∙ none-outer in absurd (cc)

    -- to its end
    module _ (t : ToEnd home xs.ceiling level x.lasting x.stage later.object.lasting V mid) (between : later.object.stage ≡ standing.Between) where
      abbrev rested : Stage
      rested = stage.Resting (config_of later.object.lasting)

      ends : (lv : ℕ) × Stands sys terms (record s {
        told = s.told ++ map (for_object p) t.g;
        reading = record (s.reading) { ceiling = lv; running = at.outer; place = Ended p };
        stages = moved s.stages p rested;
        entries = having s.entries p (s.entries p);
      })
      ends =
          step_ends sys terms s p n.object n.chart at.outer t.g (step_event x.stage V) (step_entry x.stage) (remainder_of home x.lasting x.stage V) (config_of x.lasting) (config_of later.object.lasting)
          (numbered sys sound) is-object positive k.stands at.owed at.step within (goes-as (tell t.g) (Some (config_of later.object.lasting)) t.goes)

      abbrev after : KernelState
      after = record s {
        told = s.told ++ map (for_object p) t.g;
        reading = record (s.reading) { ceiling = ends.0; running = at.outer; place = Ended p };
        stages = moved s.stages p rested;
        entries = having s.entries p (s.entries p);
      }

      alike-end : ChangeAlike (map entry_of (held_in x.lasting x.stage)) (map entry_of (held_in later.object.lasting later.object.stage)) V mid
      alike-end =
          subst (λ z. ChangeAlike (map entry_of (held_in x.lasting x.stage)) (map entry_of (held_in later.object.lasting z)) V mid) (sym between)
          (subst (λ es. ChangeAlike (map entry_of (held_in x.lasting x.stage)) (map entry_of es) V mid) (sym (append-nil later.object.lasting.list.entries.items)) t.hands)

      pub follows-end : HandsFollow xs v zs w
      follows-end = follow-w alike-end

      cover-end : HandsCover zs w
      cover-end = cover-follows xs zs v w k.hands follows-end

      named-end : list_all (is_named sys) (held_in later.object.lasting later.object.stage) ≡ true
      named-end =
          subst (λ z. list_all (is_named sys) (held_in later.object.lasting z) ≡ true) (sym between)
          (subst (λ es. list_all (is_named sys) es ≡ true) (sym (append-nil later.object.lasting.list.entries.items)) (subst (λ y. list_all (is_named y) later.object.lasting.list.entries.items ≡ true) (t.grows.sys ∙ k.lane.of) t.stand.named))

      ceiling-end : after.reading.ceiling ≡ zs.ceiling
      ceiling-end = ceiling-of sys terms after ends.1 ∙ ap (ceiling_in 0) (told-w t.g t.grows) ∙ ap (λ u. ceiling_in 0 u.told) w-is ∙ sym t.lane.told ∙ sym at-level

      popped : at.outer ≡ reverse front
      popped = let all : p ∷ at.outer ≡ p ∷ reverse front = sym at.step.running ∙ k.running ∙ reverse-append front (p ∷ []) in cc

      pub stepped-end : KnowsAt (MayLook sys terms) sys terms looks front zs w
      stepped-end = record {
        knows = record {
          state = after;
          told = told-w t.g t.grows;
          stands = ends.1;
          counted = k.counted;
          ceiling = ceiling-end;
          lane = lane-w t.g t.grows t.lane.told t.lane.spills;
          running = popped;
          settled = k.settled;
          now = now-of w (lanes-w t.g t.grows);
          later = λ i lt. ap (λ l. has_stim l i) (lanes-w t.g t.grows) ∙ k.later i lt;
          objects = all-put sys xs zs v w s.stages s.entries p n.object n.chart its.slot later rested (s.entries p) n.is n.found n.its (sys-w t.g t.grows) k.lane.of cover-end at-place puts others
              (object-w rested t.room named-end (record { started = started-w; between = between; config = refl; few = t.few })) k.objects;
          hands = cover-end;
        };
        at = record {
          stack = record {
            started = at.step.started;
            named = (subst (AllByRecursion (IsObjectWithChart sys)) at.step.running at.stack.named).1;
            descends = (subst Descends at.step.running at.stack.descends).1;
            rests = λ d found none. rest-of d found none;
            waits = λ o is. subst (λ z. is_paused z ≡ true) (sym (moved-other rested o (apart-of o is))) (at.stack.waits o is);
          };
          place = tt;
          owed = at.owed;
        };
      }
        where
          rest-of : (d : ObjectDef) → object_at sys d.priority ≡ Some d → has at.outer d.priority ≡ false → is_resting (moved s.stages p rested d.priority) ≡ true
          rest-of d found none = by (p == d.priority) refl
            where
              by : (b : Bool) → (p == d.priority) ≡ b → is_resting (cond b rested (s.stages d.priority)) ≡ true
              by true is = refl
              by false is = at.stack.rests d found (ap (λ ps. has ps d.priority) at.step.running ∙ rw is none)

      -- the row at the base stays
      pub row-end : SameRow (reading_in sys terms v) (reading_in sys terms w)
      row-end = row-as after w ends.1 (told-w t.g t.grows) (now-of w (lanes-w t.g t.grows)) refl refl

      pub onward-end : w.answered ≡ v.answered
      onward-end = ap (λ u. u.answered) w-is ∙ t.grows.answered

      pub plan-end : w.plan ≡ v.plan
      plan-end = ap (λ u. u.plan) w-is ∙ t.grows.plan

    -- to its next scheduling point
    module _ (t : ToPoint home xs.ceiling level x.lasting x.stage later.object.lasting later.object.stage V mid) where
      abbrev due : Remainder
      due = remainder_of home later.object.lasting later.object.stage mid

      abbrev paused : Stage
      paused = stage.Paused (step_event x.stage V) (step_entry x.stage) due (config_of later.object.lasting)

      going : IsGoing home later.object.lasting t.going mid
      going = subst (λ z. IsUnderWay home later.object.lasting z mid) t.stands t.under_way

      due-tasks : due.tasks ≡ tasks_in home t.going.left
      due-tasks = ap (λ z. (remainder_of home later.object.lasting z mid).tasks) t.stands ∙ tasks-of t.going.left.under (tasks_in home t.going.left) t.going.leaf

      ready-due : IsReady sys (actor n.object n.chart) due (config_of later.object.lasting)
      ready-due = record {
        able = subst (λ ts. list_all (task_able sys true) ts ≡ true) (sym due-tasks) going.able;
        closing = closes-left V.sys (actor_of x.me n.chart x.lasting) (moment (step_event x.stage V) (step_entry x.stage)) (remainder_of home x.lasting x.stage V) due (config_of x.lasting) (config_of later.object.lasting) t.g t.done closing t.split t.reaches;
        room = subst (λ i. length (kept_in later.object.lasting.list) ≤ i) (t.room ∙ its.is.room) going.few;
      }

      advances : StepAdvances sys (actor n.object n.chart) (step_event x.stage V) (step_entry x.stage) (remainder_of home x.lasting x.stage V) (config_of x.lasting) (tell t.g ++ Point ∷ []) due (config_of later.object.lasting)
      advances =
          subst (λ a. StepAdvances sys a (step_event x.stage V) (step_entry x.stage) (remainder_of home x.lasting x.stage V) (config_of x.lasting) (tell t.g ++ Point ∷ []) due (config_of later.object.lasting)) is-actor
          (subst (λ y. StepAdvances y (actor_of x.me n.chart x.lasting) (step_event x.stage V) (step_entry x.stage) (remainder_of home x.lasting x.stage V) (config_of x.lasting) (tell t.g ++ Point ∷ []) due (config_of later.object.lasting)) k.lane.of t.advances)

      pauses : (lv : ℕ) × Stands sys terms (record s {
        told = s.told ++ map (for_object p) t.g;
        reading = record (s.reading) { ceiling = lv };
        owed = p;
        stages = moved s.stages p paused;
        entries = having s.entries p (s.entries p);
      })
      pauses =
          step_pauses sys terms s p n.object n.chart at.outer t.g (step_event x.stage V) (step_entry x.stage) (remainder_of home x.lasting x.stage V) due (config_of x.lasting) (config_of later.object.lasting)
          (numbered sys sound) is-object positive k.stands at.owed at.step within advances ready-due

      abbrev waiting : KernelState
      waiting = record s {
        told = s.told ++ map (for_object p) t.g;
        reading = record (s.reading) { ceiling = pauses.0 };
        owed = p;
        stages = moved s.stages p paused;
        entries = having s.entries p (s.entries p);
      }

      pub follows-point : HandsFollow xs v zs w
      follows-point = follow-w t.hands

      cover-point : HandsCover zs w
      cover-point = cover-follows xs zs v w k.hands follows-point

      home-sys : mid.sys ≡ sys
      home-sys = t.grows.sys ∙ k.lane.of

      stand-point : StandAll (held_in later.object.lasting later.object.stage) mid
      stand-point = subst (λ z. StandAll (held_in later.object.lasting z) mid) (sym t.stands) (subst (λ es. StandAll (held_by later.object.lasting t.going.left.under ++ es) mid) (sym (ap hand_of going.is)) going.stand)

      named-point : list_all (is_named sys) (held_in later.object.lasting later.object.stage) ≡ true
      named-point = subst (λ y. list_all (is_named y) (held_in later.object.lasting later.object.stage) ≡ true) home-sys stand-point.named

      ceiling-point : waiting.reading.ceiling ≡ zs.ceiling
      ceiling-point = ceiling-of sys terms waiting pauses.1 ∙ ap (ceiling_in 0) (told-w t.g t.grows) ∙ ap (λ u. ceiling_in 0 u.told) w-is ∙ sym t.lane.told ∙ sym at-level

      turn-point : IsInTurn home (step_event x.stage V) (step_entry x.stage) due (config_of later.object.lasting) later.object w
      turn-point = subst (λ u. IsInTurn home (step_event x.stage V) (step_entry x.stage) due (config_of later.object.lasting) later.object u) (sym w-is) (record {
        started = started-w;
        under_way = under-way-by home later.object.lasting later.object.stage v.by mid t.under_way;
        event = sym t.same_event ∙ sym (event-by later.object.stage v.by mid);
        entry = sym t.same_entry;
        left = sym (left-by home later.object.lasting later.object.stage v.by mid);
        config = refl;
      })

      stage-point : StageIs sys n.object n.chart later.object w paused
      stage-point = (t.going, t.stands, subst (λ h. IsInTurn h (step_event x.stage V) (step_entry x.stage) due (config_of later.object.lasting) later.object w) (sym home-w) turn-point)

      pub stepped-point : KnowsAt (MayLook sys terms) sys terms looks (front ++ p ∷ []) zs w
      stepped-point = record {
        knows = record {
          state = waiting;
          told = told-w t.g t.grows;
          stands = pauses.1;
          counted = k.counted;
          ceiling = ceiling-point;
          lane = lane-w t.g t.grows t.lane.told t.lane.spills;
          running = k.running;
          settled = k.settled;
          now = now-of w (lanes-w t.g t.grows);
          later = λ i lt. ap (λ l. has_stim l i) (lanes-w t.g t.grows) ∙ k.later i lt;
          objects = all-put sys xs zs v w s.stages s.entries p n.object n.chart its.slot later paused (s.entries p) n.is n.found n.its (sys-w t.g t.grows) k.lane.of cover-point at-place puts others
              (object-w paused t.room named-point stage-point) k.objects;
          hands = cover-point;
        };
        at = record {
          stack = record {
            started = at.step.started;
            named = at.stack.named;
            descends = at.stack.descends;
            rests = λ d found none. rest-of d found none;
            waits = λ o is. wait-of o is;
          };
          place = subst (λ ps. IsLookPlace (kernel_in terms) s.reading.place ps) (sym at.step.running) (subst (λ pl. IsLookPlace (kernel_in terms) pl (p ∷ at.outer)) (sym at.step.inside) positive);
          owed = sym (ap (λ pl. row_of pl s.reading.running) at.step.inside ∙ ap (row_of Inside) at.step.running);
        };
      }
        where
          rest-of : (d : ObjectDef) → object_at sys d.priority ≡ Some d → has s.reading.running d.priority ≡ false → is_resting (moved s.stages p paused d.priority) ≡ true
          rest-of d found none = by (p == d.priority) (sym (ap (λ ps. has ps d.priority) at.step.running) ∙ none)
            where
              by : (b : Bool) → (b || has at.outer d.priority) ≡ false → is_resting (cond b paused (s.stages d.priority)) ≡ true
              by true h = absurd (cc)
              by false h = at.stack.rests d found none

          wait-of : (o : ℕ) → has s.reading.running o ≡ true → is_paused (moved s.stages p paused o) ≡ true
          wait-of o is = by (p == o) (sym (ap (λ ps. has ps o) at.step.running) ∙ is)
            where
              by : (b : Bool) → (b || has at.outer o) ≡ true → is_paused (cond b paused (s.stages o)) ≡ true
              by true h = refl
              by false h = at.stack.waits o h

      -- the row at the base stays
      pub row-point : SameRow (reading_in sys terms v) (reading_in sys terms w)
      row-point = row-as waiting w pauses.1 (told-w t.g t.grows) (now-of w (lanes-w t.g t.grows)) refl refl

      pub onward-point : w.answered ≡ v.answered
      onward-point = ap (λ u. u.answered) w-is ∙ t.grows.answered

      pub plan-point : w.plan ≡ v.plan
      plan-point = ap (λ u. u.plan) w-is ∙ t.grows.plan

  -- What resuming the object at the top comes to.
  abbrev pub AfterStep : ℕ → Objects → LaneView → Step → Type 0
  AfterStep level ys w step.Point = KnowsAt (MayLook sys terms) sys terms looks (front ++ p ∷ []) (record ys { ceiling = level }) w × GoesOnward xs v (record ys { ceiling = level }) w × SameRow (reading_in sys terms v) (reading_in sys terms w)
  AfterStep level ys w step.Done = KnowsAt (MayLook sys terms) sys terms looks front (record ys { ceiling = level }) w × GoesOnward xs v (record ys { ceiling = level }) w × SameRow (reading_in sys terms v) (reading_in sys terms w)
  AfterStep level ys w step.Stopped = TurnStopped sys terms v w × AddsAlone p v w × RowStops sys terms v w halt.Stopped
  AfterStep level ys w step.Memory = Unit {0}

  pub after-step : (level : ℕ) (ys : Objects) (w : LaneView) (answer : Step) → ResumesAt sys xs.ceiling level p xs ys v w answer → AfterStep level ys w answer
  after-step level ys w answer r = by answer resumed.0 (subst (λ o. ResumesAs o sys xs.ceiling level x r.later.object V resumed.0 answer) has-chart resumed.1) resumed.2
    where
      same-slot : r.slot ≡ its.slot
      same-slot = some-same (some-same (sym r.there ∙ at-place))

      resumed : ObjectResumes sys xs.ceiling level x r.later.object v w answer
      resumed = subst (λ sl. ObjectResumes sys xs.ceiling level sl.object r.later.object v w answer) same-slot r.resumes

      threshold : r.later.threshold ≡ its.slot.threshold
      threshold = r.threshold ∙ ap (λ sl. sl.threshold) same-slot

      by : (answer : Step) (mid : LaneView) → ResumesAs (Some n.chart) sys xs.ceiling level x r.later.object V mid answer → w ≡ works_for v.by mid → AfterStep level ys w answer
      by step.Point mid h is =
          let o : GoesOnward xs v (record ys { ceiling = level }) w = record { hands = follows-point level r.later mid w (record ys { ceiling = level }) is r.put.slots refl threshold h.0 h.1; answered = onward-point level r.later mid w (record ys { ceiling = level }) is r.put.slots refl threshold h.0 h.1; plan = plan-point level r.later mid w (record ys { ceiling = level }) is r.put.slots refl threshold h.0 h.1 } in
          (stepped-point level r.later mid w (record ys { ceiling = level }) is r.put.slots refl threshold h.0 h.1, o, row-point level r.later mid w (record ys { ceiling = level }) is r.put.slots refl threshold h.0 h.1)
      by step.Done mid h is =
          let o : GoesOnward xs v (record ys { ceiling = level }) w = record { hands = follows-end level r.later mid w (record ys { ceiling = level }) is r.put.slots refl threshold h.0 h.1.1 h.1.0; answered = onward-end level r.later mid w (record ys { ceiling = level }) is r.put.slots refl threshold h.0 h.1.1 h.1.0; plan = plan-end level r.later mid w (record ys { ceiling = level }) is r.put.slots refl threshold h.0 h.1.1 h.1.0 } in
          (stepped-end level r.later mid w (record ys { ceiling = level }) is r.put.slots refl threshold h.0 h.1.1 h.1.0, o, row-end level r.later mid w (record ys { ceiling = level }) is r.put.slots refl threshold h.0 h.1.1 h.1.0)
      by step.Stopped mid (same, inl a) is =
          let lanes : lanes_of w ≡ lanes_of v = same-lanes v w (ap (λ u. u.plan) is ∙ ap (λ u. u.plan) a.stops ∙ a.grows.plan) (ap (λ u. u.happened) is ∙ ap (λ u. u.happened) a.stops ∙ a.grows.happened) in (
            record {
              zero = λ end cut. ends-so sys terms end _ _ _ (asserted-ends r.later.object.lasting r.later.object.stage mid w (ap (λ u. u.told) is) lanes a end cut);
              why = inl (asserted-code r.later.object.lasting r.later.object.stage mid w (ap (λ u. u.told) is) lanes a);
            },
            asserted-alone r.later.object.lasting r.later.object.stage mid w (ap (λ u. u.told) is) lanes a,
            λ threaded. stops-few w (ends-few sys terms end_asserted _ _ _ (asserted-ends r.later.object.lasting r.later.object.stage mid w (ap (λ u. u.told) is) lanes a end_asserted refl) threaded),
          )
      by step.Stopped mid (same, inr b) is =
          let lanes : lanes_of w ≡ lanes_of v =
          same-lanes v w (ap (λ u. u.plan) is ∙ ap (λ u. u.plan) b.stops ∙ b.spills.plan ∙ b.grows.plan) (ap (λ u. u.happened) is ∙ ap (λ u. u.happened) b.stops ∙ b.spills.happened ∙ b.grows.happened) in (
            record {
              zero = λ end cut. ends-so sys terms end _ _ _ (spilled-ends r.later.object.lasting r.later.object.stage mid w (ap (λ u. u.told) is) lanes b end cut);
              why = inl (spilled-code r.later.object.lasting r.later.object.stage mid w (ap (λ u. u.told) is) lanes b);
            },
            spilled-alone r.later.object.lasting r.later.object.stage mid w (ap (λ u. u.told) is) lanes b,
            λ threaded. stops-few w (ends-few sys terms end_asserted _ _ _ (spilled-ends r.later.object.lasting r.later.object.stage mid w (ap (λ u. u.told) is) lanes b end_asserted refl) threaded),
          )
      by step.Memory mid h is = tt

  -- The order of all records stays, to the end of the step or of the run.
  module _ (acts : Bool) (h : InOrder acts sys looks v) where
    gains-on : (g : List Told) (mid w : LaneView) → w ≡ works_for v.by mid → Grows g V mid → Gains (map (for_object p) g) v w
    gains-on g mid w is grows =
        subst (λ u. Gains (map (for_object p) g) v u) (sym is)
        (subst (λ o. Gains (map (for_object o) g) v (works_for v.by mid)) is-mine (gains-set x.me v.by (map (for_object x.me) g) v mid grows))

    goes-quiet : (g : List Told) (mid w : LaneView) → w ≡ works_for v.by mid → Grows g V mid → IsQuiet p g → list_any (λ t. is_some (stim_of t.body)) g ≡ false → InOrder acts sys looks w
    goes-quiet g mid w is grows quiet unstim =
        grows-in_order acts sys looks (map (for_object p) g) v w (gains-on g mid w is grows) quiet.lookless (calm-items p g ∙ quiet.calm) (unstim-items p g unstim) h

    done-order : (g : List Told) (d : Config) (mid w : LaneView) → w ≡ works_for v.by mid → Grows g V mid
        → StepGoesOn V.sys (actor_of x.me n.chart x.lasting) (step_event x.stage V) (step_entry x.stage) (remainder_of home x.lasting x.stage V) (config_of x.lasting) (tell g) (Some d) → InOrder acts sys looks w
    done-order g d mid w is grows goes =
        let form = done-form sys (actor n.object n.chart) (step_event x.stage V) (step_entry x.stage) (remainder_of home x.lasting x.stage V) (config_of x.lasting) closing g d (goes-as (tell g) (Some d) goes) in
        goes-quiet g mid w is grows (subst (IsQuiet p) (sym form.whole) (done-quiet p form.front form.rel form.own form.calm form.drops)) form.unstim

    point-order : (g : List Told) (due : Remainder) (d : Config) (mid w : LaneView) → w ≡ works_for v.by mid → Grows g V mid
        → StepAdvances sys (actor n.object n.chart) (step_event x.stage V) (step_entry x.stage) (remainder_of home x.lasting x.stage V) (config_of x.lasting) (tell g ++ Point ∷ []) due d
        → IsReady sys (actor n.object n.chart) due d → InOrder acts sys looks w
    unfolding StepAdvances
    point-order g due d mid w is grows advances able-due =
        let rest = goes_on-completes sys (actor n.object n.chart) (step_event x.stage V) (step_entry x.stage) due d able-due.able able-due.room in
        let inside = point-inner sys (actor n.object n.chart) (step_event x.stage V) (step_entry x.stage) (remainder_of home x.lasting x.stage V) (config_of x.lasting) closing g rest.0 rest.1
        (subst (λ ps. StepGoesOn sys (actor n.object n.chart) (step_event x.stage V) (step_entry x.stage) (remainder_of home x.lasting x.stage V) (config_of x.lasting) ps rest.1) (append_assoc (tell g) (Point ∷ []) rest.0) (advances rest.0 rest.1 rest.2)) in
        goes-quiet g mid w is grows (record { calm = inner-calm g inside; lookless = own-lookless p g (inner-own g inside) }) (inner-unstim g inside)

    asserted-order : (y : Lasting) (z : Position) (mid w : LaneView) → w ≡ works_for v.by mid → EndsAsserted home x.lasting x.stage y z V mid → StopsInOrder acts sys v w
    asserted-order y z mid w is a =
        let form = failed-form sys (actor n.object n.chart) (step_event x.stage V) (step_entry x.stage) (remainder_of home x.lasting x.stage V) (config_of x.lasting) closing p a.g (goes-as (tell a.g) None a.goes) in
        ends-in_order acts sys looks a.code (map (for_object p) a.g) v (works_for v.by a.mid) w (gains-on a.g a.mid (works_for v.by a.mid) refl a.grows) (is ∙ ap (works_for v.by) a.stops) (own-lookless p a.g form.own) form.ends h.order

    spilled-order : (y : Lasting) (z : Position) (mid w : LaneView) → w ≡ works_for v.by mid → EndsSpilled home x.lasting x.stage y z V mid → StopsInOrder acts sys v w
    spilled-order y z mid w is b =
        halts-behind acts sys v (works_for v.by b.mid) w halt.Stopped gains.sys gains.plan
        (ends-in_order acts sys looks 6 (spill_told (length b.mid.told) ∷ []) (works_for v.by b.mid) (works_for v.by b.full) w (gains-set b.mid.by v.by (spill_told (length b.mid.told) ∷ []) b.mid b.full b.spills)
        (is ∙ ap (works_for v.by) b.stops) (refl, tt) (spill-last (length b.mid.told))
        (λ acting. in_order-grows sys looks (map (for_object p) b.g) v (works_for v.by b.mid) gains lookless (calm-items p b.g ∙ calm-b) (h.order acting)))
      where
        gains : Gains (map (for_object p) b.g) v (works_for v.by b.mid)
        gains = gains-on b.g b.mid (works_for v.by b.mid) refl b.grows

        goes : StepGoesOn sys (actor n.object n.chart) (step_event x.stage V) (step_entry x.stage) (remainder_of home x.lasting x.stage V) (config_of x.lasting) (tell b.g ++ b.begins.0) b.begins.1
        goes = goes-as (tell b.g ++ b.begins.0) b.begins.1 b.begins.2

        calm-b : list_any (λ t. is_end t.body) b.g ≡ false
        calm-b = cut-calm sys (actor n.object n.chart) (step_event x.stage V) (step_entry x.stage) (remainder_of home x.lasting x.stage V) (config_of x.lasting) closing b.g b.begins.0 b.begins.1 b.begins.3 goes

        by : CutForm b.g → LooksNone (untold_all (map (for_object p) b.g))
        by (WithinIt own) = own-lookless p b.g own
        by (BehindIt front rel whole own drops) =
            let parts : list_any (λ t. is_end t.body) front ≡ false = front-calm front (plain body.Done ∷ rel) (subst (λ g. list_any (λ t. is_end t.body) g ≡ false) whole calm-b) in
            subst (λ g. LooksNone (untold_all (map (for_object p) g))) (sym whole) (done-quiet p front rel own parts drops).lookless

        lookless : LooksNone (untold_all (map (for_object p) b.g))
        lookless = by (cut-form sys (actor n.object n.chart) (step_event x.stage V) (step_entry x.stage) (remainder_of home x.lasting x.stage V) (config_of x.lasting) closing b.g b.begins.0 b.begins.1 calm-b goes)

    abbrev pub OrderAfter : LaneView → Step → Type 0
    OrderAfter w step.Point = InOrder acts sys looks w
    OrderAfter w step.Done = InOrder acts sys looks w
    OrderAfter w step.Stopped = StopsInOrder acts sys v w
    OrderAfter w step.Memory = Unit {0}

    pub order-after : (level : ℕ) (ys : Objects) (w : LaneView) (answer : Step) → ResumesAt sys xs.ceiling level p xs ys v w answer → OrderAfter w answer
    order-after level ys w answer r = by answer resumed.0 (subst (λ o. ResumesAs o sys xs.ceiling level x r.later.object V resumed.0 answer) has-chart resumed.1) resumed.2
      where
        same-slot : r.slot ≡ its.slot
        same-slot = some-same (some-same (sym r.there ∙ at-place))

        resumed : ObjectResumes sys xs.ceiling level x r.later.object v w answer
        resumed = subst (λ sl. ObjectResumes sys xs.ceiling level sl.object r.later.object v w answer) same-slot r.resumes

        threshold : r.later.threshold ≡ its.slot.threshold
        threshold = r.threshold ∙ ap (λ sl. sl.threshold) same-slot

        by : (answer : Step) (mid : LaneView) → ResumesAs (Some n.chart) sys xs.ceiling level x r.later.object V mid answer → w ≡ works_for v.by mid → OrderAfter w answer
        by step.Point mid k is =
            point-order k.1.g _ (config_of r.later.object.lasting) mid w is k.1.grows
            (advances level r.later mid w (record ys { ceiling = level }) is r.put.slots refl threshold k.0 k.1) (ready-due level r.later mid w (record ys { ceiling = level }) is r.put.slots refl threshold k.0 k.1)
        by step.Done mid k is = done-order k.1.1.g (config_of r.later.object.lasting) mid w is k.1.1.grows k.1.1.goes
        by step.Stopped mid (same, inl a) is = asserted-order r.later.object.lasting r.later.object.stage mid w is a
        by step.Stopped mid (same, inr b) is = spilled-order r.later.object.lasting r.later.object.stage mid w is b
        by step.Memory mid k is = tt
