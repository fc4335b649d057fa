-- One object's start: to its end, to its assertion, or to where the lane has no room.
use Rattle.std.proofs.Common.{◌≡◌, ℕ, zero, suc, ◌+◌, ◌<◌, ◌≤◌, ◌==◌, cond, Bool, true, false, List, [], ◌∷◌, ◌++◌, map, length, refl, sym, ◌∙◌, ap, subst, inl, inr, Option, Some, None, arith, append_assoc, append-nil, length-append}
use Rattle.std.specs.Prelude.{◌⊎◌}
use Rattle.std.specs.List.{list_all}
use Rattle.std.proofs.lemmas.Bool.Decides.{nat_tests}
use Rattle.std.proofs.lemmas.List.{length-map, map-append}
use Rattle.qp_chart.specs.StateTree.{has}
use Rattle.qp_model.specs.declared.systems.System.{System}
use Rattle.qp_model.specs.declared.systems.ObjectDef.{ObjectDef}
use Rattle.qp_model.specs.Acts.{Config}
use Rattle.qp_model.specs.Course.{Starts, actor, chart_at, first_config}
use Rattle.qp_model.specs.Ends.{end_asserted, may_cut}
use Rattle.qp_model.specs.Lawful.{spill_cuts}
use Rattle.qp_model.specs.Pieces.{Piece, Tell, tell}
use Rattle.qp_model.specs.Sites.{object_at}
use Rattle.qp_model.specs.Sound.{IsSound}
use Rattle.qp_model.specs.Told.{Told, for_object, untold}
use Rattle.qp_model_order.specs.RunOrder.{has_stim}
use Rattle.qp_calls.specs.Clauses.{Stops, entry_of}
use Rattle.qp_calls.specs.Counting.{times}
use Rattle.qp_calls.specs.Deferring.{ChangeAlike, StandAll, is_named}
use Rattle.qp_calls.specs.LaneView.{Gains, Grows, LaneView, ceiling_in}
use Rattle.qp_calls.specs.Notes.{last_code}
use Rattle.qp_chart_compiled.specs.Compiled.{IsCompiled}
use Rattle.qp_calls.proofs.Growing.{gains-then}
use Rattle.qp_calls.proofs.NoteLemmas.{last-snoc}
use Rattle.qp_dispatch.specs.declared.lasting.Lasting.{Lasting}
use Rattle.qp_dispatch.specs.declared.objects.Object.{Object}
use Rattle.qp_dispatch.specs.declared.steps.Step.{Step}
use Rattle.qp_dispatch.specs.declared.steps.Step.TheVariants as step
use Rattle.qp_dispatch.specs.Lasts.{actor_of, config_of}
use Rattle.qp_dispatch.specs.Objects.{ObjectStarts, StartsAs, setting_for, is_step_over, works_for}
use Rattle.qp_dispatch.specs.Resume.{CanTakeSteps as ObjectReady, held_in}
use Rattle.qp_dispatch.specs.Runs.{ObjectSetting}
use Rattle.qp_dispatch.specs.Starting.{StartAsserted, StartDone, StartExhausted, StartSpilled, StartsTo}
use Rattle.qp_kernel.specs.Happenings.{IsInOrder, IsOrderEnded, has_no_stim, lanes_of}
use Rattle.qp_kernel.specs.Laws.{AllWait, OthersWait}
use Rattle.qp_kernel.specs.Stages as stage
use Rattle.qp_kernel.specs.Stages.{is_resting, may_wait}
use Rattle.qp_kernel.specs.Turning.{IsObject, KernelState, Stands, having, moved, spill_told, Terms}
use Rattle.qp_kernel.proofs.KernelLaws.{assertion_ends_start, full_lane_ends, object_starts, spill_ends_start}
use Rattle.qp_kernel.proofs.OrderGrowth.{in_order-grows, order-ends}
use Rattle.qp_kernel.proofs.TurnLemmas.{FailedForm, start-cut, start-failed, start-form}
use Rattle.qp_kernel_turns.specs.declared.objects.Objects.{Objects}
use Rattle.qp_kernel_turns.specs.declared.objects.Slot.{Slot}
use Rattle.qp_kernel_turns.specs.Objects.{IsAt, MayStartAt, PutsSlot, StartsAt}
use Rattle.qp_kernel_turns.specs.Knowing.{HandsCover, HandsFollow, HasNotStarted, IsObjectWithChart, IsObjectAt, KnowsAt, KnowsObject, StageIs, last_is}
use Rattle.qp_model_order.specs.SourceRun.{untold_all}
use Rattle.qp_kernel.specs.Starts.{IsStartAlone}
use Rattle.qp_kernel.proofs.StartsLemmas.{done-spills, done-starts, own-alone, own-spills}
use Rattle.qp_kernel_turns.specs.Starting.{GrowsAlong, GrowsAndStops, HasBegun, StartStopped}
use Rattle.qp_kernel_turns.specs.Turning.{TurnStopped, idle_in}
use Rattle.qp_kernel_turns.proofs.Ends.{EndsFew, ends-few, ends-so}
use Rattle.qp_kernel_turns.proofs.Places.{cover-follows, follow-put}
use Rattle.qp_kernel_turns.proofs.SoundObjects.{able, numbered, ready}
use Rattle.qp_kernel_turns.proofs.Staying.{all-put, resting-waits}
use Rattle.qp_kernel_turns.proofs.Halted.{agreed, same-lanes}
use Rattle.qp_kernel_turns.proofs.Stepping.{ceiling-of, code-behind, cuts-behind, ends-code, last-own}
use Rattle.qp_kernel_turns.proofs.Ordered.{unstim-grows, unstim-items}
use Rattle.qp_kernel_turns.proofs.Quiet.{IsQuiet, calm-items, cut-quiet, ended-stops, gains-set, own-lookless, spill-last, whole-quiet}
use Rattle.qp_model.proofs.AbleLemmas.{some-same}

-- an object at its start
module _ (sys : System) (sound : IsSound sys) (terms : Terms) (p : ℕ) (others : List ℕ) (xs : Objects) (v : LaneView) (n : IsObjectWithChart sys p) (apart : has others p ≡ false)
    (k : KnowsAt (HasBegun sys (p ∷ others)) sys terms 0 [] xs v) where
  abbrev s : KernelState
  s = k.knows.state

  abbrev its : KnowsObject sys n.object n.chart xs v (s.stages n.object.priority) (length (s.entries n.object.priority))
  its = k.knows.objects n.object n.chart n.found n.its

  abbrev x : Object
  x = its.slot.object

  abbrev home : ObjectSetting
  home = setting_for sys n.chart x

  abbrev V : LaneView
  V = works_for x.me v

  pub at-slot : IsAt xs p its.slot
  at-slot = subst (λ o. IsAt xs o its.slot) n.is its.there

  is-mine : x.me ≡ p
  is-mine = its.is.me ∙ n.is

  pub has-chart : chart_at sys x.chart ≡ Some n.chart
  has-chart = ap (chart_at sys) its.is.of ∙ n.its

  unstarted : s.stages p ≡ stage.Unstarted
  unstarted = k.at.fresh p (let self : (p == p) ≡ true = grind (arith, nat_tests) in rw self refl)

  not-started : HasNotStarted n.object x
  not-started = subst (λ st. StageIs sys n.object n.chart x v st) (ap s.stages n.is ∙ unstarted) its.is.stage

  -- it may start
  pub may-start : MayStartAt sys xs.ceiling p xs v
  unfolding times
  may-start = record {
    slot = its.slot;
    there = at-slot;
    may = record {
      at = record {
        chart = n.chart;
        is = has-chart;
        ready = subst (λ o. ObjectReady sys o n.chart) (sym its.is.me) (ready sys sound n.object n.chart n.found n.its);
        compiled = its.is.compiled;
        lane = record {
          of = k.knows.lane.of;
          mine = refl;
          serves = ap v.serves its.is.me ∙ k.knows.lane.serves n.object n.found;
          told = k.knows.lane.told;
          spills = k.knows.lane.spills;
        };
      };
      unstarted = not-started.unstarted;
      few = subst (λ es. length (map entry_of es) ≤ x.lasting.list.entries.capacity) (sym not-started.first.empty) (omega arith);
      stand = subst (λ es. StandAll es V) (sym not-started.first.empty) (record { named = refl; counts = λ t. omega arith });
    };
  }

  is-actor : actor_of x.me n.chart x.lasting ≡ actor n.object n.chart
  is-actor = ap (λ o. record { o = o; chart = n.chart; room = x.lasting.list.entries.capacity }) its.is.me ∙ ap (λ r. record { o = n.object.priority; chart = n.chart; room = r }) its.is.room

  is-object : IsObject sys p n.object n.chart
  is-object = record { priority = n.is; found = n.found; its = n.its }

  positive : 0 < p
  positive = let one = numbered sys sound n.object n.found in omega (arith, n.is, one)

  grown : (g : List Told) (mid : LaneView) → Grows g V mid → mid.told ≡ v.told ++ map (for_object p) g
  grown g mid h = h.told ∙ ap (λ o. v.told ++ map (for_object o) g) is-mine

  told-on : (g : List Told) (mid : LaneView) → Grows g V mid → s.told ++ map (for_object p) g ≡ mid.told
  told-on g mid h = ap (λ ts. ts ++ map (for_object p) g) k.knows.told ∙ sym (grown g mid h)

  starts-as : (ps : List Piece) (end : Option Config) → Starts V.sys (actor_of x.me n.chart x.lasting) (config_of x.lasting) ps end → Starts sys (actor n.object n.chart) (first_config n.object) ps end
  starts-as ps end h =
      subst (λ c. Starts sys (actor n.object n.chart) c ps end) not-started.first.config
      (subst (λ a. Starts sys a (config_of x.lasting) ps end) is-actor
      (subst (λ y. Starts y (actor_of x.me n.chart x.lasting) (config_of x.lasting) ps end) k.knows.lane.of h))

  -- the others wait
  waits-apart : OthersWait sys s p
  waits-apart d found other = by (has others d.priority) refl
    where
      by : (b : Bool) → has others d.priority ≡ b → may_wait (s.stages d.priority) ≡ true
      by true is = ap may_wait (k.at.fresh d.priority (rw (other, is) refl))
      by false is = resting-waits (s.stages d.priority) (k.at.rests d found (rw (other, is) refl))

  waits-all : AllWait sys s
  waits-all d found = by (p == d.priority) refl
    where
      by : (b : Bool) → (p == d.priority) ≡ b → may_wait (s.stages d.priority) ≡ true
      by true is = ap may_wait (k.at.fresh d.priority (rw is refl))
      by false is = waits-apart d found is

  -- the lanes of the sources stay
  lanes-on : (g : List Told) (mid w : LaneView) → Grows g V mid → w.plan ≡ mid.plan → w.happened ≡ mid.happened → lanes_of w ≡ lanes_of v
  lanes-on g mid w h plan happened = same-lanes v w (plan ∙ h.plan) (happened ∙ h.happened)

  now-of : (w : LaneView) → lanes_of w ≡ lanes_of v → s.now ≡ has_stim (lanes_of w)
  now-of w lanes = k.knows.now ∙ ap has_stim (sym lanes)

  -- the whole start, as the kernel's lane has it
  abbrev behind : (g : List Told) (c : Config) (level : ℕ) → KernelState
  behind g c level = record s {
    told = s.told ++ map (for_object p) g;
    reading = record (s.reading) { ceiling = level; unstarted = others };
    stages = moved s.stages p (stage.Resting c);
    entries = having s.entries p (s.entries p);
  }

  stands-behind : (g : List Told) (c : Config) → Starts sys (actor n.object n.chart) (first_config n.object) (tell g) (Some c) → (level : ℕ) × Stands sys terms (behind g c level)
  stands-behind g c h = object_starts sys terms s p n.object n.chart others g c (numbered sys sound) is-object positive k.knows.stands k.at.owed k.at.unstarted unstarted h

  fresh-behind : (c : Config) (o : ℕ) → has others o ≡ true → moved s.stages p (stage.Resting c) o ≡ stage.Unstarted
  fresh-behind c o is = by (p == o) refl
    where
      by : (b : Bool) → (p == o) ≡ b → cond b (stage.Resting c) (s.stages o) ≡ stage.Unstarted
      by true h =
          let equal : p ≡ o = grind (arith, nat_tests) in
          let wrong : has others p ≡ true = subst (λ i. has others i ≡ true) (sym equal) is in
          let never : true ≡ false = sym wrong ∙ apart in absurd (cc)
      by false h = k.at.fresh o (rw (h, is) refl)

  rests-behind : (c : Config) (d : ObjectDef) → object_at sys d.priority ≡ Some d → has others d.priority ≡ false → is_resting (moved s.stages p (stage.Resting c) d.priority) ≡ true
  rests-behind c d found none = by (p == d.priority) refl
    where
      by : (b : Bool) → (p == d.priority) ≡ b → is_resting (cond b (stage.Resting c) (s.stages d.priority)) ≡ true
      by true h = refl
      by false h = k.at.rests d found (rw (h, none) refl)

  waits-behind : (g : List Told) (c : Config) (level : ℕ) → AllWait sys (behind g c level)
  waits-behind g c level d found = by (has others d.priority) refl
    where
      by : (b : Bool) → has others d.priority ≡ b → may_wait (moved s.stages p (stage.Resting c) d.priority) ≡ true
      by true is = ap may_wait (fresh-behind c d.priority is)
      by false is = resting-waits (moved s.stages p (stage.Resting c) d.priority) (rests-behind c d found is)

  -- the lane at the end of a start
  pub gains-on : (g : List Told) (mid : LaneView) → Grows g V mid → Gains (map (for_object p) g) v (works_for v.by mid)
  gains-on g mid h = subst (λ o. Gains (map (for_object o) g) v (works_for v.by mid)) is-mine (gains-set x.me v.by (map (for_object x.me) g) v mid h)

  -- It came to its end.
  module _ (level : ℕ) (later : Slot) (mid w : LaneView) (zs : Objects) (w-is : w ≡ works_for v.by mid) (puts : PutsSlot xs zs p later) (at-level : zs.ceiling ≡ level) (threshold : later.threshold ≡ its.slot.threshold)
      (same : later.object ≡ record x { lasting = later.object.lasting; started = true }) (t : StartDone home level x.lasting later.object.lasting V mid) where
    abbrev c : Config
    c = config_of later.object.lasting

    new : (lv : ℕ) × Stands sys terms (behind t.g c lv)
    new = stands-behind t.g c (starts-as (tell t.g) (Some c) t.starts)

    held-before : held_in x.lasting x.stage ≡ x.lasting.list.entries.items
    held-before = ap (held_in x.lasting) not-started.between ∙ append-nil x.lasting.list.entries.items

    between-later : later.object.stage ≡ x.stage
    between-later = ap (λ y. y.stage) same

    held-later : held_in later.object.lasting later.object.stage ≡ later.object.lasting.list.entries.items
    held-later = ap (held_in later.object.lasting) (between-later ∙ not-started.between) ∙ append-nil later.object.lasting.list.entries.items

    alike : ChangeAlike (map entry_of (held_in x.lasting x.stage)) (map entry_of (held_in later.object.lasting later.object.stage)) v w
    alike o = rw (held-before, held-later, w-is) (t.hands o)

    pub done-follows : HandsFollow xs v zs w
    done-follows = follow-put xs zs p its.slot later v w at-slot puts alike

    cover : HandsCover zs w
    cover = cover-follows xs zs v w k.knows.hands done-follows

    told-w : s.told ++ map (for_object p) t.g ≡ w.told
    told-w = told-on t.g mid t.grows ∙ sym (ap (λ u. u.told) w-is)

    gains-w : Gains (map (for_object p) t.g) v w
    gains-w = subst (λ u. Gains (map (for_object p) t.g) v u) (sym w-is) (gains-on t.g mid t.grows)

    sys-w : w.sys ≡ v.sys
    sys-w = ap (λ u. u.sys) w-is ∙ t.grows.sys

    lanes-w : lanes_of w ≡ lanes_of v
    lanes-w = lanes-on t.g mid w t.grows (ap (λ u. u.plan) w-is) (ap (λ u. u.happened) w-is)

    named-later : list_all (is_named sys) (held_in later.object.lasting later.object.stage) ≡ true
    named-later = subst (λ es. list_all (is_named sys) es ≡ true) (sym held-later) (subst (λ y. list_all (is_named y) later.object.lasting.list.entries.items ≡ true) (t.grows.sys ∙ k.knows.lane.of) t.stand.named)

    object-w : IsObjectAt sys n.object n.chart later w (stage.Resting c) (length (s.entries p))
    object-w = record {
      threshold = threshold ∙ its.is.threshold;
      me = ap (λ o. o.me) same ∙ its.is.me;
      of = ap (λ o. o.chart) same ∙ its.is.of;
      compiled = subst (λ o. IsCompiled n.chart o.compiled) (sym same) its.is.compiled;
      room = t.room ∙ its.is.room;
      named = named-later;
      taken = ap (λ o. o.taken) same ∙ its.is.taken ∙ ap (λ o. length (s.entries o)) n.is;
      stage = record { started = ap (λ o. o.started) same; between = between-later ∙ not-started.between; config = refl; few = t.few };
    }

    pub done-knows : KnowsAt (HasBegun sys others) sys terms 0 [] zs w
    done-knows = record {
      knows = record {
        state = behind t.g c new.0;
        told = told-w;
        stands = new.1;
        counted = k.knows.counted;
        ceiling = ceiling-of sys terms (behind t.g c new.0) new.1 ∙ ap (ceiling_in 0) told-w ∙ ap (λ u. ceiling_in 0 u.told) w-is ∙ sym t.lane.told ∙ sym at-level;
        lane = record {
          of = sys-w ∙ k.knows.lane.of;
          told = at-level ∙ t.lane.told ∙ sym (ap (λ u. ceiling_in 0 u.told) w-is);
          spills = rw w-is t.lane.spills;
          serves = λ d found. ap (λ u. u.serves d.priority) w-is ∙ t.grows.serves d.priority ∙ k.knows.lane.serves d found;
        };
        running = k.knows.running;
        settled = k.knows.settled;
        now = now-of w lanes-w;
        later = λ i lt. ap (λ l. has_stim l i) lanes-w ∙ k.knows.later i lt;
        objects = all-put sys xs zs v w s.stages s.entries p n.object n.chart its.slot later (stage.Resting c) (s.entries p) n.is n.found n.its sys-w k.knows.lane.of cover at-slot puts waits-apart object-w k.knows.objects;
        hands = cover;
      };
      at = record {
        unstarted = refl;
        fresh = fresh-behind c;
        rests = rests-behind c;
        owed = k.at.owed;
        base = k.at.base;
        place = k.at.place;
        idle = k.at.idle;
      };
    }

    pub done-order : IsInOrder sys 0 v → IsInOrder sys 0 w
    done-order order =
        let quiet = whole-quiet sys (actor n.object n.chart) p (first_config n.object) t.g c (starts-as (tell t.g) (Some c) t.starts) in
        in_order-grows sys 0 (map (for_object p) t.g) v w gains-w quiet.lookless (calm-items p t.g ∙ quiet.calm) order

    pub done-unstim : has_no_stim v → has_no_stim w
    done-unstim none =
        let form = start-form sys (actor n.object n.chart) (first_config n.object) t.g c (starts-as (tell t.g) (Some c) t.starts) in
        unstim-grows (map (for_object p) t.g) v w gains-w (unstim-items p t.g form.unstim) none

    pub done-grows : GrowsAlong 1 xs v zs w
    done-grows =
        let form = start-form sys (actor n.object n.chart) (first_config n.object) t.g c (starts-as (tell t.g) (Some c) t.starts) in
        record { ts = map (for_object p) t.g; gains = gains-w; hands = done-follows; are = done-starts p t.g form.front form.whole form.own }

  -- An assertion ended it.
  module _ (y : Lasting) (m w : LaneView) (w-is : w ≡ works_for v.by m) (a : StartAsserted home x.lasting y V m) where
    abbrev before : LaneView
    before = works_for v.by a.mid

    pub asserted-stops : Stops a.code before w
    asserted-stops = w-is ∙ ap (works_for v.by) a.stops

    starts-none : Starts sys (actor n.object n.chart) (first_config n.object) (tell a.g) None
    starts-none = starts-as (tell a.g) None a.starts

    asserted-told : w.told ≡ s.told ++ map (for_object p) a.g
    asserted-told = ap (λ u. u.told) asserted-stops ∙ sym (told-on a.g a.mid a.grows)

    lanes-asserted : lanes_of w ≡ lanes_of v
    lanes-asserted = lanes-on a.g a.mid w a.grows (ap (λ u. u.plan) asserted-stops) (ap (λ u. u.happened) asserted-stops)

    pub asserted-ends : (end : ℕ) → may_cut end ≡ true → EndsFew sys terms end s.reading.idle w.told (has_stim (lanes_of w))
    asserted-ends end cut =
        subst (λ ts. EndsFew sys terms end s.reading.idle ts (has_stim (lanes_of w))) (sym asserted-told)
        (assertion_ends_start sys terms end s (has_stim (lanes_of w)) p n.object n.chart others a.g (numbered sys sound) (able sys sound) is-object positive k.knows.stands
        (agreed s (has_stim (lanes_of w)) (now-of w lanes-asserted)) cut k.at.owed k.at.unstarted unstarted starts-none waits-apart)

    form : FailedForm p a.g
    form = start-failed sys (actor n.object n.chart) p (first_config n.object) a.g starts-none

    pub asserted-code : 0 < last_code w.told
    asserted-code = rw asserted-told (code-behind s.told (map (for_object p) a.g) (ends-code (map (for_object p) a.g) form.ends form.asserts))

    pub asserted-order : IsInOrder sys 0 v → (end : ℕ) → may_cut end ≡ true → IsOrderEnded sys end w
    asserted-order order end cut = ended-stops sys end a.code before w asserted-stops (order-ends sys 0 end (map (for_object p) a.g) v before cut (gains-on a.g a.mid a.grows) (own-lookless p a.g form.own) form.ends order)

    pub asserted-alone : (m : ℕ) → 0 < m → IsStartAlone m (untold_all (map (for_object p) a.g))
    asserted-alone zero lt = absurd (omega (arith, lt))
    asserted-alone (suc m) lt = own-alone m p a.g form.own

    abbrev pub asserted-grows : GrowsAndStops a.code v w
    asserted-grows = record { ts = map (for_object p) a.g; mid = before; gains = gains-on a.g a.mid a.grows; stops = asserted-stops }

  -- Memory was refused.
  pub refused-grows : (y : Lasting) (m w : LaneView) → w ≡ works_for v.by m → StartExhausted home x.lasting y V m → GrowsAndStops 7 v w
  refused-grows y m w w-is e = record { ts = map (for_object p) e.g; mid = works_for v.by e.mid; gains = gains-on e.g e.mid e.grows; stops = w-is ∙ ap (works_for v.by) e.dry.stops }

  -- A `spill` ended it.
  module _ (y : Lasting) (m w : LaneView) (w-is : w ≡ works_for v.by m) (b : StartSpilled home x.lasting y V m) where
    abbrev filled : LaneView
    filled = works_for v.by b.mid

    abbrev spilled : LaneView
    spilled = works_for v.by b.full

    abbrev many : ℕ
    many = length b.mid.told

    pub spilled-stops : Stops 6 spilled w
    spilled-stops = w-is ∙ ap (works_for v.by) b.stops

    pub gains-spill : Gains (spill_told many ∷ []) filled spilled
    gains-spill = gains-set b.mid.by v.by (spill_told many ∷ []) b.mid b.full b.spills

    starts-begun : Starts sys (actor n.object n.chart) (first_config n.object) (tell (b.g ++ b.begins.0)) b.begins.1
    starts-begun = starts-as (tell (b.g ++ b.begins.0)) b.begins.1 b.begins.2

    quiet : IsQuiet p b.g
    quiet = cut-quiet sys (actor n.object n.chart) p (first_config n.object) b.g b.begins.0 b.begins.1 starts-begun b.begins.3

    spilled-told : w.told ≡ (s.told ++ map (for_object p) b.g) ++ spill_told many ∷ []
    spilled-told = ap (λ u. u.told) spilled-stops ∙ b.spills.told ∙ ap (λ ts. ts ++ spill_told many ∷ []) (sym (told-on b.g b.mid b.grows))

    lanes-spilled : lanes_of w ≡ lanes_of v
    lanes-spilled = lanes-on b.g b.mid w b.grows (ap (λ u. u.plan) spilled-stops ∙ b.spills.plan) (ap (λ u. u.happened) spilled-stops ∙ b.spills.happened)

    count : many ≡ length (s.told ++ map (for_object p) b.g)
    count = ap length (sym (told-on b.g b.mid b.grows))

    -- in the middle of the start, behind its first records
    spilled-within : (end : ℕ) → may_cut end ≡ true → (t : Told) (g : List Told) → b.g ≡ t ∷ g → (u : Told) (more : List Told) → b.begins.0 ≡ u ∷ more
        → EndsFew sys terms end s.reading.idle ((s.told ++ map (for_object p) b.g) ++ spill_told many ∷ []) (has_stim (lanes_of w))
    spilled-within end cut t g is u more left =
        subst (λ ts. EndsFew sys terms end s.reading.idle ts (has_stim (lanes_of w))) (sym (append_assoc s.told (map (for_object p) b.g) (spill_told many ∷ [])))
        (spill_ends_start sys terms end s (has_stim (lanes_of w)) p n.object n.chart others b.g many (tell b.begins.0) b.begins.1 (numbered sys sound) (able sys sound) is-object positive k.knows.stands
        (agreed s (has_stim (lanes_of w)) (now-of w lanes-spilled)) cut k.at.owed k.at.unstarted unstarted quiet.calm (λ none. let wrong : tell (u ∷ more) ≡ [] = sym (ap tell left) ∙ none in cc)
        (subst (λ ps. Starts sys (actor n.object n.chart) (first_config n.object) ps b.begins.1) (map-append Tell b.g b.begins.0) starts-begun) waits-apart
        (record {
          count = count ∙ length-append s.told (map (for_object p) b.g) ∙ ap (λ i. length s.told + i) (length-map b.g (for_object p));
          full = b.few;
          behind = ap (λ ts. spill_cuts p (map untold ts)) (sym (append_assoc s.told (map (for_object p) b.g) (spill_told many ∷ []))) ∙ cuts-behind p many (s.told ++ map (for_object p) b.g)
              ∙ subst (λ h. last_is p (s.told ++ map (for_object p) h) ≡ true) (sym is) (last-own p s.told t g);
        }))

    -- before its first record
    spilled-first : (end : ℕ) → may_cut end ≡ true → b.g ≡ [] → EndsFew sys terms end s.reading.idle ((s.told ++ map (for_object p) b.g) ++ spill_told many ∷ []) (has_stim (lanes_of w))
    spilled-first end cut none =
        let same : s.told ++ map (for_object p) b.g ≡ s.told = ap (λ g. s.told ++ map (for_object p) g) none ∙ append-nil s.told in
        subst (λ ts. EndsFew sys terms end s.reading.idle (ts ++ spill_told many ∷ []) (has_stim (lanes_of w))) (sym same)
        (full_lane_ends sys terms end s (has_stim (lanes_of w)) many (numbered sys sound) (able sys sound) k.knows.stands (agreed s (has_stim (lanes_of w)) (now-of w lanes-spilled)) cut
        (count ∙ ap length same) b.few waits-all)

    -- behind its last record
    spilled-last : (end : ℕ) → may_cut end ≡ true → b.begins.0 ≡ [] → (last : Option Config) → b.begins.1 ≡ last → EndsFew sys terms end s.reading.idle ((s.told ++ map (for_object p) b.g) ++ spill_told many ∷ []) (has_stim (lanes_of w))
    spilled-last end cut none None last = absurd (b.begins.3 last none)
    spilled-last end cut none (Some c) last =
        let whole : b.g ++ b.begins.0 ≡ b.g = ap (λ h. b.g ++ h) none ∙ append-nil b.g in
        let starts : Starts sys (actor n.object n.chart) (first_config n.object) (tell b.g) (Some c) =
        subst (λ h. Starts sys (actor n.object n.chart) (first_config n.object) (tell h) (Some c)) whole
        (subst (λ e. Starts sys (actor n.object n.chart) (first_config n.object) (tell (b.g ++ b.begins.0)) e) last starts-begun) in
        let done = stands-behind b.g c starts in
        full_lane_ends sys terms end (behind b.g c done.0) (has_stim (lanes_of w)) many (numbered sys sound) (able sys sound) done.1 (agreed s (has_stim (lanes_of w)) (now-of w lanes-spilled)) cut count b.few (waits-behind b.g c done.0)

    pub spilled-ends : (end : ℕ) → may_cut end ≡ true → EndsFew sys terms end s.reading.idle w.told (has_stim (lanes_of w))
    spilled-ends end cut = subst (λ ts. EndsFew sys terms end s.reading.idle ts (has_stim (lanes_of w))) (sym spilled-told) (by b.begins.0 refl b.g refl)
      where
        by : (more : List Told) → b.begins.0 ≡ more → (g : List Told) → b.g ≡ g → EndsFew sys terms end s.reading.idle ((s.told ++ map (for_object p) b.g) ++ spill_told many ∷ []) (has_stim (lanes_of w))
        by [] none g is = spilled-last end cut none b.begins.1 refl
        by (u ∷ more) left [] none = spilled-first end cut none
        by (u ∷ more) left (t ∷ g) is = spilled-within end cut t g is u more left

    pub spilled-last_code : last_code w.told ≡ 6
    spilled-last_code = ap last_code spilled-told ∙ last-snoc (s.told ++ map (for_object p) b.g) (spill_told many)

    pub spilled-code : 0 < last_code w.told
    spilled-code = rw spilled-last_code (omega arith)

    pub spilled-order : IsInOrder sys 0 v → (end : ℕ) → may_cut end ≡ true → IsOrderEnded sys end w
    spilled-order order end cut =
        let ordered = in_order-grows sys 0 (map (for_object p) b.g) v filled (gains-on b.g b.mid b.grows) quiet.lookless (calm-items p b.g ∙ quiet.calm) order in
        ended-stops sys end 6 spilled w spilled-stops (order-ends sys 0 end (spill_told many ∷ []) filled spilled cut gains-spill (refl, tt) (spill-last many) ordered)

    spilled-behind : (m : ℕ) (more : List Told) → b.begins.0 ≡ more → (last : Option Config) → b.begins.1 ≡ last → IsStartAlone (suc m) (untold_all (map (for_object p) b.g ++ spill_told many ∷ []))
    spilled-behind m [] none None last = absurd (b.begins.3 last none)
    spilled-behind m [] none (Some c) last =
        let whole : b.g ++ b.begins.0 ≡ b.g = ap (λ h. b.g ++ h) none ∙ append-nil b.g in
        let starts : Starts sys (actor n.object n.chart) (first_config n.object) (tell b.g) (Some c) =
        subst (λ h. Starts sys (actor n.object n.chart) (first_config n.object) (tell h) (Some c)) whole
        (subst (λ e. Starts sys (actor n.object n.chart) (first_config n.object) (tell (b.g ++ b.begins.0)) e) last starts-begun) in
        let form = start-form sys (actor n.object n.chart) (first_config n.object) b.g c starts in
        done-spills m p many b.g form.front form.whole form.own
    spilled-behind m (u ∷ more) left last is =
        own-spills m p many b.g
        (start-cut sys (actor n.object n.chart) (first_config n.object) b.g (tell b.begins.0) b.begins.1 (λ none. let wrong : tell (u ∷ more) ≡ [] = sym (ap tell left) ∙ none in cc) quiet.calm
        (subst (λ ps. Starts sys (actor n.object n.chart) (first_config n.object) ps b.begins.1) (map-append Tell b.g b.begins.0) starts-begun))

    pub spilled-alone : (m : ℕ) → 0 < m → IsStartAlone m (untold_all (map (for_object p) b.g ++ spill_told many ∷ []))
    spilled-alone zero lt = absurd (omega (arith, lt))
    spilled-alone (suc m) lt = spilled-behind m b.begins.0 refl b.begins.1 refl

    abbrev pub spilled-grows : GrowsAndStops 6 v w
    spilled-grows = record {
      ts = map (for_object p) b.g ++ spill_told many ∷ [];
      mid = spilled;
      gains = gains-then (map (for_object p) b.g) (spill_told many ∷ []) v filled spilled (gains-on b.g b.mid b.grows) gains-spill;
      stops = spilled-stops;
    }

  -- What the start of its object says.
  module _ (level : ℕ) (ys : Objects) (w : LaneView) (answer : Step) (r : StartsAt sys level p xs ys v w answer) where
    slot-is : r.slot ≡ its.slot
    slot-is = some-same (some-same (sym r.there ∙ at-slot))

    pub threshold-is : r.later.threshold ≡ its.slot.threshold
    threshold-is = r.threshold ∙ ap (λ z. z.threshold) slot-is

    pub opened : (mid : LaneView) × ((r.later.object ≡ record x { lasting = r.later.object.lasting; started = is_step_over answer }) × StartsTo home level x.lasting r.later.object.lasting V mid answer) × (w ≡ works_for v.by mid)
    opened =
        subst (λ c. (mid : LaneView) × StartsAs c sys level x r.later.object V mid answer × (w ≡ works_for v.by mid)) has-chart
        (subst (λ z. ObjectStarts sys level z.object r.later.object v w answer) slot-is r.starts)

  pub stopped-turn : (level : ℕ) (ys : Objects) (w : LaneView) → StartsAt sys level p xs ys v w step.Stopped → TurnStopped sys terms v w
  stopped-turn level ys w r = let o = opened level ys w step.Stopped r in by o.0 o.2 o.1.1
    where
      by : (m : LaneView) → w ≡ works_for v.by m → (StartAsserted home x.lasting r.later.object.lasting V m) ⊎ (StartSpilled home x.lasting r.later.object.lasting V m) → TurnStopped sys terms v w
      by m w-is (inl a) = record { zero = λ end cut. ends-so sys terms end _ _ _ (asserted-ends r.later.object.lasting m w w-is a end cut); why = inl (asserted-code r.later.object.lasting m w w-is a) }
      by m w-is (inr b) = record { zero = λ end cut. ends-so sys terms end _ _ _ (spilled-ends r.later.object.lasting m w w-is b end cut); why = inl (spilled-code r.later.object.lasting m w w-is b) }

  -- no row of looks has come
  pub stopped-rows : (level : ℕ) (ys : Objects) (w : LaneView) → StartsAt sys level p xs ys v w step.Stopped → terms.threaded ≡ true → idle_in sys terms w.told (has_stim (lanes_of w)) ≤ 0
  stopped-rows level ys w r threaded = let o = opened level ys w step.Stopped r in by o.0 o.2 o.1.1
    where
      by : (m : LaneView) → w ≡ works_for v.by m → (StartAsserted home x.lasting r.later.object.lasting V m) ⊎ (StartSpilled home x.lasting r.later.object.lasting V m) → idle_in sys terms w.told (has_stim (lanes_of w)) ≤ 0
      by m w-is (inl a) = let few = ends-few sys terms end_asserted _ _ _ (asserted-ends r.later.object.lasting m w w-is a end_asserted refl) threaded in let none = k.at.idle in omega (arith, few, none)
      by m w-is (inr b) = let few = ends-few sys terms end_asserted _ _ _ (spilled-ends r.later.object.lasting m w w-is b end_asserted refl) threaded in let none = k.at.idle in omega (arith, few, none)

  pub stopped-start : 0 < length sys.objects → (level : ℕ) (ys : Objects) (w : LaneView) → StartsAt sys level p xs ys v w step.Stopped → IsInOrder sys 0 v → ((most : Terms) → TurnStopped sys most v w) → ((most : Terms) → most.threaded ≡ true → idle_in sys most w.told (has_stim (lanes_of w)) ≤ 0) → (h : StartStopped sys v w) × (h.before ≡ 0)
  stopped-start some level ys w r order turn none = let o = opened level ys w step.Stopped r in by o.0 o.2 o.1.1
    where
      by : (m : LaneView) → w ≡ works_for v.by m → (StartAsserted home x.lasting r.later.object.lasting V m) ⊎ (StartSpilled home x.lasting r.later.object.lasting V m) → (h : StartStopped sys v w) × (h.before ≡ 0)
      by m w-is (inl a) = (record { turn = turn; none = none; order = asserted-order r.later.object.lasting m w w-is a order; code = a.code; some = a.some; last = ap (λ u. last_code u.told) (w-is ∙ ap (works_for v.by) a.stops) ∙ a.last; grows = asserted-grows r.later.object.lasting m w w-is a; before = 0; left = some; alone = asserted-alone r.later.object.lasting m w w-is a }, refl)
      by m w-is (inr b) = (record { turn = turn; none = none; order = spilled-order r.later.object.lasting m w w-is b order; code = 6; some = omega arith; last = spilled-last_code r.later.object.lasting m w w-is b; grows = spilled-grows r.later.object.lasting m w w-is b; before = 0; left = some; alone = spilled-alone r.later.object.lasting m w w-is b }, refl)
