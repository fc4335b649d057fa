-- What a turn leaves of a lane, and of what is counted.
use Rattle.std.proofs.Common.{◌≡◌, ℕ, ◌+◌, ◌-◌, ◌≤◌, ◌==◌, Bool, true, false, cond, List, [], ◌∷◌, ◌++◌, length, reverse, get_or, refl, sym, ◌∙◌, ap, subst, arith}
use Rattle.std.specs.Prelude.{IsTrue}
use Rattle.std.specs.List.{count_by}
use Rattle.std.proofs.lemmas.Bool.Decides.{nat_tests}
use Rattle.std.proofs.lemmas.List.{map-append, reverse-reverse}
use Rattle.qp_model.specs.declared.systems.System.{System}
use Rattle.qp_model.specs.declared.systems.ObjectDef.{ObjectDef}
use Rattle.qp_model.specs.declared.stimulus.Stim.{Stim}
use Rattle.qp_model.specs.KernelLane.{Again, Chosen, Ended, Halted, Inside, Looking, Over, Resting, Upcoming, is_over}
use Rattle.qp_model.specs.Kernels.{qk}
use Rattle.qp_model.specs.Lawful.{is_settle}
use Rattle.qp_model.specs.Sites.{object_at}
use Rattle.qp_model.specs.Told.{ToldItem, untold}
use Rattle.qp_model.specs.WordLaw.{is_object}
use Rattle.qp_model.proofs.NumberLemmas.{count-append}
use Rattle.qp_model_order.specs.SourceRun.{untold_all}
use Rattle.qp_stim.specs.Rules.{StimuliFit}
use Rattle.qp_calls.specs.LaneView.{LaneView}
use Rattle.qp_dispatch.specs.declared.objects.Turn.{Turn}
use Rattle.qp_dispatch.specs.declared.objects.Turn.TheVariants as turn
use Rattle.qp_kernel.specs.declared.kernel.Kernel.{Kernel}
use Rattle.qp_kernel.specs.LaneZero.{row_of}
use Rattle.qp_kernel.specs.Turning.{IsLookPlace, under_qk}
use Rattle.qp_kernel_turns.specs.declared.objects.Objects.{Objects}
use Rattle.qp_kernel_turns.specs.AtRest.{StopsAtRest}
use Rattle.qp_kernel_turns.specs.Counting.{TurnsCounted}
use Rattle.qp_kernel_turns.specs.Knowing.{HasStack, KnowsAt, MayLook}
use Rattle.qp_kernel_turns.specs.Lanes.{IsFrontOf, KeepsLane, LaneTurns, SameLane}
use Rattle.qp_kernel_turns.specs.Ordering.{InOrder, TurnsInOrder}
use Rattle.qp_kernel_turns.specs.Pending.{Pending}
use Rattle.qp_kernel_turns.specs.Turning.{TurnsTo, stand_of}
use Rattle.qp_kernel_turns.specs.TurnRows.{TurnsRows, bare_row}
use Rattle.qp_kernel_turns.proofs.Places.{follow-then}
use Rattle.qp_kernel_turns.proofs.RoundRows.{object-there}
use Rattle.qp_port_phases.specs.Rows.{CountsOn, LaneSeesEntry}
use Rattle.qp_port_law.specs.SourcesLeft.{SourceLeaves}
use Rattle.qp_port_qk.specs.RestLaws.{IsAtBase}
use Rattle.qp_port_lanes.specs.declared.cursor.Cursor.{Cursor}
use Rattle.qp_port_phases.specs.declared.lanes.Passed.{Passed}
use Rattle.qp_port_phases.specs.declared.lanes.Passed.TheVariants as passed
use Rattle.qp_port_phases.specs.Passing.{PassesTo}
use Rattle.qp_port_phases.specs.Stopping.{Hears}
use Rattle.qp_port_lanes.proofs.Hearing.{passes-hands, passes-hear, passes-to, why-starved, why-stopped}
use Rattle.qp_port_lanes.specs.CursorAt.{IsCursorAt, mine}
use Rattle.qp_port_lanes.specs.Passing.{CursorPasses, settles_of}
use Rattle.qp_port_lanes.specs.SourceTurning.{IsSameSource, SourceTurns}
use Rattle.qp_port_qk.specs.declared.job.QkJob.TheVariants as job
use Rattle.qp_port_lanes.specs.Answers.{Feeds, is_idle, turn_by}
use Rattle.qp_port_lanes.proofs.Feeding.{idle-long}
use Rattle.qp_port_qk.specs.declared.job.QkJob.{QkJob}
use Rattle.qp_port_qk.specs.Jobs.{QkJobStands, JobStarts, KernelStands}
use Rattle.qp_port_qk.specs.Workers.{QkMayBegin, QkMayTurn}
use Rattle.qp_port_qk.specs.KernelRests.{KernelRests}
use Rattle.qp_port_qk.specs.Numbers.{numbers_of}

-- At the base a look may stand.

look-place : (p : Upcoming) (running : List ℕ) → running ≡ [] → is_over qk p ≡ true → IsLookPlace qk p running
look-place Inside running base h = rw base tt
look-place Over running base h = refl
look-place (Looking p os) running base h = absurd (cc)
look-place (Chosen p) running base h = absurd (cc)
look-place (Ended p) running base h = tt
look-place Resting running base h = absurd (cc)
look-place Again running base h = tt
look-place Halted running base h = absurd (cc)

row-none : (p : Upcoming) (running : List ℕ) → running ≡ [] → row_of p running ≡ 0
row-none Inside running base = rw base refl
row-none p running base = refl

pub base-looks : (sys : System) (budget looks : ℕ) (stack : List ℕ) (xs : Objects) (v : LaneView) → KnowsAt (IsAtBase sys) sys (under_qk budget) looks stack xs v → KnowsAt (MayLook sys (under_qk budget)) sys (under_qk budget) looks stack xs v
base-looks sys budget looks stack xs v k = record {
  knows = k.knows;
  at = record {
    stack = subst (λ ps. HasStack sys ps k.knows.state) (sym k.at.base) k.at.stack;
    place = look-place k.knows.state.reading.place k.knows.state.reading.running k.at.base k.at.whole;
    owed = k.at.owed ∙ sym (row-none k.knows.state.reading.place k.knows.state.reading.running k.at.base);
  };
}

pub stack-none : (sys : System) (budget looks : ℕ) (stack : List ℕ) (xs : Objects) (v : LaneView) → KnowsAt (IsAtBase sys) sys (under_qk budget) looks stack xs v → stack ≡ []
stack-none sys budget looks stack xs v k = sym (reverse-reverse stack) ∙ ap reverse (sym k.knows.running ∙ k.at.base)

pub plan-fits : (sys : System) (v : LaneView) → v.plan ≡ [] → StimuliFit sys v.plan
plan-fits sys v none = rw none (record { few = omega arith; stimuli = tt })

pub order-alone : (acts : Bool) (sys : System) (budget : ℕ) (xs : Objects) (k : Kernel) (v : LaneView) → acts ≡ false → KernelRests sys budget xs k v → InOrder acts sys k.looks v
order-alone acts sys budget xs k v alone h = record { order = λ acting. let wrong : true ≡ false = sym acting ∙ alone in absurd (cc); no_stim = h.no_stim }

-- What a turn of the kernel leaves.

pub kernel-turned : (acts : Bool) (sys : System) (budget : ℕ) (xs ys : Objects) (k l : Kernel) (v w : LaneView) (t : Turn) → KernelRests sys budget xs k v
    → TurnsTo sys (under_qk budget) (stand_of k xs v) (stand_of l ys w) t → TurnsInOrder acts sys (stand_of k xs v) (stand_of l ys w) t → StopsAtRest sys (stand_of l ys w) t → TurnsCounted k l xs ys t → LaneTurns acts v w t → KernelStands sys budget t ys l w
kernel-turned acts sys budget xs ys k l v w turn.Idle h goes order rests counted lane = record {
  first = h.first;
  start = h.start;
  made = h.made;
  none = h.none;
  follows = follow-then h.first h.start xs v ys w h.follows goes.onward.hands;
  rests = record { knows = goes.knows.knows; at = record { stack = goes.knows.at.stack; owed = goes.knows.at.owed; base = goes.knows.at.base; whole = ap (is_over qk) goes.knows.at.over } };
  no_stim = order.order.no_stim;
  counted = counted.few;
  plan = goes.onward.plan ∙ h.plan;
}
kernel-turned acts sys budget xs ys k l v w turn.Stopped h goes order rests counted lane = (record { ends = goes.zero; others = rests }, why-stopped v w lane.handed)
kernel-turned acts sys budget xs ys k l v w turn.Memory h goes order rests counted lane = why-starved v w lane.handed

keeps-same : (acts : Bool) (v w : LaneView) → acts ≡ false → KeepsLane acts v w → SameLane v w
keeps-same acts v w alone k = record { sys = k.same.sys; lane = k.same.lane; world = k.same.world; plan = k.same.plan; happened = k.still alone; serves = k.same.serves; advances = k.same.advances }

pub kernel-same : (acts : Bool) (v w : LaneView) (t : Turn) → acts ≡ false → LaneTurns acts v w t → SameLane v w
kernel-same acts v w turn.Idle alone h = keeps-same acts v w alone h.keeps
kernel-same acts v w turn.Stopped alone h = keeps-same acts v w alone h.keeps
kernel-same acts v w turn.Memory alone h = keeps-same acts v w alone h.keeps

-- `settle` records

settles-more : (xs ys : List ToldItem) → settles_of (xs ++ ys) ≡ settles_of xs + settles_of ys
settles-more xs ys = ap (count_by (λ i. is_settle i.body)) (map-append untold xs ys) ∙ count-append (λ i. is_settle i.body) (untold_all xs) (untold_all ys)

settles-grow : (xs ys zs : List ToldItem) → zs ≡ xs ++ ys → settles_of xs ≤ settles_of zs
settles-grow xs ys zs is = let more = settles-more xs ys in let same = ap settles_of is in omega (arith, more, same)

settles-front : (xs zs : List ToldItem) → IsFrontOf xs zs → settles_of xs ≤ settles_of zs
settles-front xs zs h = settles-grow xs h.0 zs h.1

-- Rows.

bare-one : (sys : System) → bare_row sys ≤ 1
bare-one sys = by (length sys.objects == 0)
  where
    by : (b : Bool) → cond b 1 0 ≤ 1
    by true = omega arith
    by false = omega arith

bare-none : (sys : System) (p : ℕ) → IsTrue (is_object sys p) → bare_row sys ≡ 0
unfolding is_object object_at
bare-none sys p is = by sys.objects refl
  where
    by : (ds : List ObjectDef) → sys.objects ≡ ds → bare_row sys ≡ 0
    by [] none = let h = rw none at is in absurd (cc)
    by (d ∷ ds) some = let long : (length (d ∷ ds) == 0) ≡ false = grind (arith, nat_tests) in rw (some, long) refl

-- a queue that the lane has just seen with an entry is pending
sees-pending : (sys : System) (budget : ℕ) (xs : Objects) (k : Kernel) (v : LaneView) (p : ℕ) → KernelRests sys budget xs k v → IsTrue (is_object sys p) → LaneSeesEntry v p → Pending p v
sees-pending sys budget xs k v p h is sees =
    let o = object-there sys p is in
    let served : IsTrue (v.serves p) = subst (λ q. IsTrue (v.serves q)) o.2 (h.rests.knows.lane.serves o.0 o.1) in
    let own = (sees.own served).1 in
    let mark = sees.mark in
    let some = sees.some in
    omega (arith, own, mark, some)

pub kernel-counts : (acts : Bool) (sys : System) (budget : ℕ) (xs ys : Objects) (k l : Kernel) (v w : LaneView) (t : Turn) → acts ≡ false → KernelRests sys budget xs k v → LaneTurns acts v w t
    → TurnsRows acts sys (under_qk budget) k v w t → CountsOn v (numbers_of sys budget turn.Idle (job.Kernel xs k) v) (numbers_of sys budget t (job.Kernel ys l) w)
kernel-counts acts sys budget xs ys k l v w turn.Idle alone h lane rows =
    let over = rows (λ threaded. alone) in
    record {
      lost = λ none. refl;
      settles = λ none. settles-front v.told w.told lane.keeps.told;
      rows = λ none. over.most;
      pending = λ none p is sees.
          let its : IsTrue (is_object sys p) = subst (λ s. IsTrue (is_object s p)) h.rests.knows.lane.of is in
          let same = over.pending (stack-none sys budget k.looks k.stack.items xs v h.rests) p its (sees-pending sys budget xs k v p h its sees) in
          omega (arith, same);
    }
kernel-counts acts sys budget xs ys k l v w turn.Stopped alone h lane rows =
    let few = rows (λ threaded. alone) refl in
    record {
      lost = λ none. refl;
      settles = λ none. settles-front v.told w.told lane.keeps.told;
      rows = λ none. let one = bare-one sys in omega (arith, few, one);
      pending = λ none p is sees.
          let its : IsTrue (is_object sys p) = subst (λ s. IsTrue (is_object s p)) h.rests.knows.lane.of is in
          let bare = bare-none sys p its in
          omega (arith, few, bare);
    }
kernel-counts acts sys budget xs ys k l v w turn.Memory alone h lane rows = record {
  lost = λ none. absurd (cc);
  settles = λ none. absurd (cc);
  rows = λ none. absurd (cc);
  pending = λ none p is sees. absurd (cc);
}

-- Sources.

mine-same : (x y : Cursor) → IsSameSource x y → mine y ≡ mine x
mine-same x y same = ap (λ (p : List (List Stim)). get_or p (y.source - 1) []) (ap (λ s. s.now) same.0) ∙ ap (λ k. get_or x.stim.now (k - 1) []) same.1

pub source-turned : (sys : System) (budget : ℕ) (x y : Cursor) (v w : LaneView) (t : Turn) → SourceTurns sys x y v w t → IsSameSource x y → QkJobStands sys budget t (job.Source y) w
source-turned sys budget x y v w turn.Idle h same = h.goes.at
source-turned sys budget x y v w turn.Stopped h same = (
  (λ kernel end may early. subst (λ ss. SourceLeaves sys kernel end ss w.told) (sym (mine-same x y same)) (h.leaves kernel end may early)),
  why-stopped v w h.why,
)
source-turned sys budget x y v w turn.Memory h same = why-starved v w h.stops

pub source-counts : (sys : System) (budget : ℕ) (x y : Cursor) (v w : LaneView) (t : Turn) → SourceTurns sys x y v w t → CountsOn v (numbers_of sys budget turn.Idle (job.Source x) v) (numbers_of sys budget t (job.Source y) w)
source-counts sys budget x y v w turn.Idle h =
    record { lost = λ none. refl; settles = λ none. settles-grow v.told h.goes.ts w.told h.goes.told; rows = λ none. omega arith; pending = λ none p is sees. omega arith }
source-counts sys budget x y v w turn.Stopped h =
    record { lost = λ none. refl; settles = λ none. settles-grow v.told h.ts w.told h.told; rows = λ none. omega arith; pending = λ none p is sees. omega arith }
source-counts sys budget x y v w turn.Memory h = record {
  lost = λ none. absurd (cc);
  settles = λ none. absurd (cc);
  rows = λ none. absurd (cc);
  pending = λ none p is sees. absurd (cc);
}

pub source-passed : (sys : System) (budget : ℕ) (x y : Cursor) (v w : LaneView) (p : Passed) → CursorPasses sys x y v w p → IsSameSource x y → QkJobStands sys budget (turn_by p) (job.Source y) w
source-passed sys budget x y v w passed.Yes h same = h.stays.at
source-passed sys budget x y v w (passed.Found p now) h same = h.stays.at
source-passed sys budget x y v w passed.Stopped h same = (
  (λ kernel end may early. subst (λ ss. SourceLeaves sys kernel end ss w.told) (sym (mine-same x y same)) (h.stops.leaves kernel end may early)),
  why-stopped v w h.stops.why,
)
source-passed sys budget x y v w passed.Memory h same = why-starved v w h.starves.stops

-- What a turn leaves, whatever runs in the lane.

pub may-turn : (acts : Bool) (sys : System) (budget : ℕ) (t u : Turn) (x y : QkJob) (v w : LaneView) → QkMayTurn acts sys budget t x v → is_idle t ≡ true → QkJobStands sys budget u y w → Feeds v w u → QkMayTurn acts sys budget u y w
may-turn acts sys budget t u x y v w h idle stands feeds = record { alone = h.alone; sound = h.sound; few = h.few; stands = stands; fed = λ long. feeds long (h.fed (idle-long t idle)) }

-- the same behind a try with this answer
pub may-pass : (acts : Bool) (sys : System) (budget : ℕ) (t u : Turn) (p : Passed) (x y : QkJob) (v w : LaneView) → QkMayTurn acts sys budget t x v → is_idle t ≡ true → QkJobStands sys budget (turn_by p) y w → Feeds v w (turn_by p) → u ≡ turn_by p
    → QkMayTurn acts sys budget u y w
may-pass acts sys budget t u p x y v w h idle stands feeds is = subst (λ a. QkMayTurn acts sys budget a y w) (sym is) (may-turn acts sys budget t (turn_by p) x y v w h idle stands feeds)

-- and behind a start that came to its end
pub may-start : (acts : Bool) (sys : System) (budget : ℕ) (t u : Turn) (x y : QkJob) (v w : LaneView) → QkMayBegin acts sys budget t x v → is_idle u ≡ true → JobStarts sys budget u y w → Feeds v w u → QkMayTurn acts sys budget u y w
may-start acts sys budget t turn.Idle x y v w h idle starts feeds = record { alone = h.alone; sound = h.sound; few = h.few; stands = starts; fed = λ long. feeds long h.fed }
may-start acts sys budget t turn.Stopped x y v w h idle starts feeds = absurd (cc)
may-start acts sys budget t turn.Memory x y v w h idle starts feeds = absurd (cc)

-- What passing a `settle`, or a try, leaves.

pub source-passed_hears : (sys : System) (x y : Cursor) (v w : LaneView) (p : Passed) → CursorPasses sys x y v w p → Hears v w
source-passed_hears sys x y v w p h = passes-hear sys x y v w p h

pub source-passed_to : (sys : System) (x y : Cursor) (v w : LaneView) (p : Passed) → IsCursorAt sys x v → CursorPasses sys x y v w p → PassesTo v w p
source-passed_to sys x y v w p at h = passes-to sys x y v w p at.at.of h

pub source-passed_hands : (sys : System) (x y : Cursor) (v w : LaneView) (p : Passed) → CursorPasses sys x y v w p → w.hands ≡ v.hands
source-passed_hands sys x y v w p h = passes-hands sys x y v w p h
