-- Where what runs in a lane stands, by what its calls say.
use Rattle.std.proofs.Common.{◌≡◌, ℕ, ◌-◌, ◌==◌, Bool, true, false, cond, List, [], ◌∷◌, get_or, refl, sym, ◌∙◌, ap, subst, arith, Some, inl, inr}
use Rattle.std.specs.Prelude.{◌⊎◌}
use Rattle.std.specs.List.{find}
use Rattle.std.proofs.lemmas.Bool.Decides.{nat_tests}
use Rattle.qp_model.specs.declared.stimulus.Stim.{Stim}
use Rattle.qp_model.specs.declared.systems.System.{System}
use Rattle.qp_model.specs.declared.systems.ObjectDef.{ObjectDef}
use Rattle.qp_model.specs.Sites.{object_at}
use Rattle.qp_model.specs.Sound.{IsSound}
use Rattle.qp_calls.specs.LaneView.{LaneView}
use Rattle.qp_dispatch.specs.declared.objects.Turn.{Turn}
use Rattle.qp_dispatch.specs.declared.objects.Turn.TheVariants as turn
use Rattle.qp_kernel_turns.proofs.SoundObjects.{sound-object}
use Rattle.qp_port_law.specs.Homes.{HomeEnds}
use Rattle.qp_port_law.specs.SourcesLeft.{SourceLeaves}
use Rattle.qp_port_law.proofs.HomeLaws.{unstarted_home_ends}
use Rattle.qp_port_lanes.proofs.Resting.{home-of, stops-found}
use Rattle.qp_port_lanes.specs.declared.cursor.Cursor.{Cursor}
use Rattle.qp_port_phases.specs.declared.lanes.Passed.{Passed}
use Rattle.qp_port_phases.specs.declared.lanes.Passed.TheVariants as passed
use Rattle.qp_port_phases.specs.Passing.{PassesTo}
use Rattle.qp_port_phases.specs.Stopping.{Hears}
use Rattle.qp_port_lanes.proofs.Hearing.{passes-hands, passes-hear, passes-to, why-starved, why-stopped}
use Rattle.qp_port_lanes.specs.Answers.{Feeds, is_idle, turn_by}
use Rattle.qp_port_lanes.specs.CursorAt.{IsCursorAt, mine}
use Rattle.qp_port_lanes.specs.SourceTurning.{IsSameSource, SourceTurns}
use Rattle.qp_port_lanes.specs.Passing.{CursorPasses}
use Rattle.qp_port_lanes.proofs.Feeding.{idle-long}
use Rattle.qp_port_lanes.proofs.Standing.{may-stop}
use Rattle.qp_port.specs.declared.job.Job.{Job}
use Rattle.qp_port.specs.declared.job.Job.TheVariants as job
use Rattle.qp_port.specs.Jobs.{JobBegins, JobEnds, JobPasses, JobRests, JobStands, JobStops}
use Rattle.qp_port.specs.Workers.{MayBegin, MayEnd, MayTurn}

found-priority : (o : ℕ) (ds : List ObjectDef) (d : ObjectDef) → find (λ x. x.priority == o) ds ≡ Some d → d.priority ≡ o
found-priority o [] d h = absurd (cc)
found-priority o (x ∷ xs) d h = by (found-priority o xs d) (x.priority == o) refl h
  where
    by : (find (λ y. y.priority == o) xs ≡ Some d → d.priority ≡ o) → (b : Bool) → (x.priority == o) ≡ b → cond b (Some x) (find (λ y. y.priority == o) xs) ≡ Some d → d.priority ≡ o
    by go true test h =
        let same : x ≡ d = cc in
        let is : x.priority ≡ o = grind (arith, nat_tests, test) in
        subst (λ y. y.priority ≡ o) same is
    by go false test h = go h

pub priority-is : (sys : System) (o : ℕ) (d : ObjectDef) → object_at sys o ≡ Some d → d.priority ≡ o
unfolding object_at
priority-is sys o d found = found-priority o sys.objects d found

-- A lane stays the same one.

-- Objects.

-- Why a start stopped.

-- Sources.

mine-same : (x y : Cursor) → IsSameSource x y → mine y ≡ mine x
mine-same x y same = ap (λ (p : List (List Stim)). get_or p (y.source - 1) []) (ap (λ s. s.now) same.0) ∙ ap (λ k. get_or x.stim.now (k - 1) []) same.1

pub source-turned : (sys : System) (budget : ℕ) (x y : Cursor) (v w : LaneView) (t : Turn) → SourceTurns sys x y v w t → IsSameSource x y → JobStands sys budget t (job.Source y) w
source-turned sys budget x y v w turn.Idle h same = h.goes.at
source-turned sys budget x y v w turn.Stopped h same = (
  (λ kernel end may early. subst (λ ss. SourceLeaves sys kernel end ss w.told) (sym (mine-same x y same)) (h.leaves kernel end may early)),
  why-stopped v w h.why,
)
source-turned sys budget x y v w turn.Memory h same = why-starved v w h.stops

pub source-passed : (sys : System) (budget : ℕ) (x y : Cursor) (v w : LaneView) (p : Passed) → CursorPasses sys x y v w p → IsSameSource x y → JobPasses sys budget p (job.Source y) w
source-passed sys budget x y v w passed.Yes h same = h.stays.at
source-passed sys budget x y v w (passed.Found p now) h same = h.stays.at
source-passed sys budget x y v w passed.Stopped h same = (
  (λ kernel end may early. subst (λ ss. SourceLeaves sys kernel end ss w.told) (sym (mine-same x y same)) (h.stops.leaves kernel end may early)),
  why-stopped v w h.stops.why,
)
source-passed sys budget x y v w passed.Memory h same = why-starved v w h.starves.stops

-- What a turn leaves, whatever runs in the lane.

-- What passing a `settle`, or a try, leaves.

pub source-passed_hears : (sys : System) (x y : Cursor) (v w : LaneView) (p : Passed) → CursorPasses sys x y v w p → Hears v w
source-passed_hears sys x y v w p h = passes-hear sys x y v w p h

pub source-passed_to : (sys : System) (x y : Cursor) (v w : LaneView) (p : Passed) → IsCursorAt sys x v → CursorPasses sys x y v w p → PassesTo v w p
source-passed_to sys x y v w p at h = passes-to sys x y v w p at.at.of h

pub source-passed_hands : (sys : System) (x y : Cursor) (v w : LaneView) (p : Passed) → CursorPasses sys x y v w p → w.hands ≡ v.hands
source-passed_hands sys x y v w p h = passes-hands sys x y v w p h

-- behind a turn, a try or a start it may take another turn
pub may-turn : (sys : System) (budget : ℕ) (t u : Turn) (x y : Job) (v w : LaneView) → MayTurn sys budget t x v → is_idle t ≡ true → JobStands sys budget u y w → Feeds v w u → MayTurn sys budget u y w
may-turn sys budget t u x y v w h idle stands feeds = record { sound = h.sound; few = h.few; stands = stands; fed = λ long. feeds long (h.fed (idle-long t idle)) }

pub may-pass : (sys : System) (budget : ℕ) (t u : Turn) (p : Passed) (x y : Job) (v w : LaneView) → MayTurn sys budget t x v → is_idle t ≡ true → JobPasses sys budget p y w → Feeds v w (turn_by p) → u ≡ turn_by p → MayTurn sys budget u y w
may-pass sys budget t u p x y v w h idle passes feeds is = subst (λ a. MayTurn sys budget a y w) (sym is) (may-turn sys budget t (turn_by p) x y v w h idle passes feeds)

pub may-start : (sys : System) (budget : ℕ) (t u : Turn) (x y : Job) (v w : LaneView) → MayBegin sys budget t x v → JobStands sys budget u y w → Feeds v w u → MayTurn sys budget u y w
may-start sys budget t u x y v w h stands feeds = record { sound = h.sound; few = h.few; stands = stands; fed = λ long. feeds long h.fed }

-- The lane may end where its job rests, and where it hasn't begun.

module _ (sys : System) (sound : IsSound sys) (budget : ℕ) (v : LaneView) where
  pub rests-stop : (x : Job) → JobRests sys budget x v → JobStops sys budget x v
  rests-stop job.Nothing h = h
  rests-stop (job.Home x) h = stops-found sys sound budget x v h v refl
  rests-stop (job.Source x) h = λ kernel end may early. may-stop sys x v kernel end h may early

  pub begins-stop : (x : Job) → JobBegins sys x v → JobStops sys budget x v
  begins-stop job.Nothing h = h
  begins-stop (job.Home x) h = record {
    ends = λ d found end early.
        let its = sound-object sys sound x.me d found in
        let here : object_at sys d.priority ≡ Some d = ap (object_at sys) (priority-is sys x.me d found) ∙ found in
        subst (HomeEnds sys d budget end) (sym h.1.told) (unstarted_home_ends sys d its.its budget end (home-of sys sound d its.its here its.is_its) early);
    rests = λ d chart found is started calm. absurd (let wrong : true ≡ false = sym started ∙ h.0.object.made.unstarted in cc);
  }
  begins-stop (job.Source x) h = λ kernel end may early. may-stop sys x v kernel end h may early

  stands-end : (t : Turn) (x : Job) → JobStands sys budget t x v → JobEnds sys budget t x v
  stands-end turn.Idle x h = rests-stop x h
  stands-end turn.Stopped x h = h.0
  stands-end turn.Memory x h = tt

pub turn-end : (sys : System) (budget : ℕ) (t : Turn) (x : Job) (v : LaneView) → MayTurn sys budget t x v → MayEnd sys budget t x v
turn-end sys budget t x v h = record { sound = h.sound; ends = stands-end sys h.sound budget v t x h.stands }

pub begin-end : (sys : System) (budget : ℕ) (t : Turn) (x : Job) (v : LaneView) → MayBegin sys budget t x v → MayEnd sys budget t x v
begin-end sys budget t x v h = record { sound = h.sound; ends = subst (λ (u : Turn). JobEnds sys budget u x v) (sym h.idle) (begins-stop sys h.sound budget v x h.begins) }

pub end-either : (sys : System) (budget : ℕ) (t : Turn) (x : Job) (v : LaneView) → MayTurn sys budget t x v ⊎ MayBegin sys budget t x v → MayEnd sys budget t x v
end-either sys budget t x v (inl h) = turn-end sys budget t x v h
end-either sys budget t x v (inr h) = begin-end sys budget t x v h
