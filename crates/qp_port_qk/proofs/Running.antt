-- From workers before their start to the lanes that their run leaves.
use Rattle.std.proofs.Common.{◌≡◌, ℕ, zero, suc, ◌+◌, ◌≤◌, Bool, true, false, ◌&&◌, List, [], ◌∷◌, ◌++◌, map, length, take, refl, sym, ◌∙◌, ap, subst, inl, inr, arith, Option, Some, None, Result, Ok, Err}
use Rattle.std.specs.Prelude.{◌⊎◌, IsTrue, IfOk, OnOk}
use Rattle.std.proofs.lemmas.Bool.{or_parts}
use Rattle.std.specs.List.{AllByRecursion, list_all, list_any}
use Rattle.qp_model.specs.declared.stimulus.Stim.{Stim}
use Rattle.qp_model.specs.declared.systems.System.{System}
use Rattle.qp_model.specs.declared.systems.ObjectDef.{ObjectDef}
use Rattle.qp_model.specs.declared.words.Word.{Word}
use Rattle.qp_model.specs.declared.words.Word.TheVariants as word
use Rattle.qp_model.specs.Ends.{may_cut, quiet}
use Rattle.qp_model.specs.Kernels.{qk}
use Rattle.qp_model.specs.Sites.{object_at}
use Rattle.qp_model.specs.Sound.{IsSound}
use Rattle.qp_model.specs.Sources.{priorities}
use Rattle.qp_model.specs.WordLaw.{is_object}
use Rattle.qp_model.proofs.AbleLemmas.{some-same}
use Rattle.qp_model.proofs.ObjectLemmas.{found-passes}
use Rattle.qp_model_order.specs.RunOrder.{has_stim}
use Rattle.qp_stim.specs.Rules.{StimuliFit}
use Rattle.qp_calls.specs.LaneView.{LaneView}
use Rattle.qp_dispatch.specs.declared.objects.Turn.{Turn}
use Rattle.qp_kernel.specs.Happenings.{lanes_of}
use Rattle.qp_kernel.specs.Turning.{under_qk}
use Rattle.qp_kernel.specs.ZeroEnds.{own_told}
use Rattle.qp_kernel_end.specs.declared.rest.Rest.{Rest}
use Rattle.qp_kernel_end.specs.Rests.{AreRests}
use Rattle.qp_kernel_turns.specs.Knowing.{IsObjectWithChart}
use Rattle.qp_kernel_turns.specs.Turning.{EndsSo, stand_of}
use Rattle.qp_kernel_turns.specs.TurnRows.{idle_rows}
use Rattle.qp_kernel_turns.proofs.RoundRows.{object-there}
use Rattle.qp_kernel_turns.proofs.SoundObjects.{is-object, named}
use Rattle.qp_port_phases.specs.Turns.{AreReady}
use Rattle.qp_port_phases.specs.declared.phases.PhasesEnd.{PhasesEnd}
use Rattle.qp_port_phases.specs.declared.phases.PhasesEnd.TheVariants as ended
use Rattle.qp_port_phases.specs.Lanes.{AreObjects, AreOneTable, SameEach}
use Rattle.qp_port_phases.specs.Quiet.{AllBelow, AreEmpty, FirstFound, HasEnded, IsEmpty}
use Rattle.qp_port_phases.specs.Stopping.{AnyStopped, HasStopped}
use Rattle.qp_port_phases.specs.Rows.{HasFewRows}
use Rattle.qp_port_law.specs.SourcesLeft.{SourceLeaves}
use Rattle.qp_port_law.specs.QuietLaws.{IsLastLook}
use Rattle.qp_port_law.specs.Sealed.{IsLaneAt}
use Rattle.qp_port_qk.proofs.Turned.{turned_kernels_end, turned_kernels_rest}
use Rattle.qp_port_law.specs.Lanes.{HaveNone, SourcesAre, settles_in}
use Rattle.qp_port_law.specs.QkLanes.{QkRests}
use Rattle.qp_port_lanes.proofs.Standing.{done-end}
use Rattle.qp_port_qk.specs.declared.job.QkJob.{QkJob}
use Rattle.qp_port_qk.specs.declared.job.QkJob.TheVariants as job
use Rattle.qp_port_qk.specs.Ends.{HasQkRun, has_ended_idle}
use Rattle.qp_port_lanes.specs.Answers.{IsFed, is_idle, is_short}
use Rattle.qp_model_order.specs.SourceRun.{untold_all}
use Rattle.qp_kernel.specs.Starts.{AreStarts}
use Rattle.qp_port_phases.specs.Starting.{StartFirst}
use Rattle.qp_port_law.specs.StartsFirst.{AreApart, IsApart}
use Rattle.qp_port_law.proofs.Apart.{AreAllApart, apart-each}
use Rattle.qp_port_qk.specs.Alone.{qk-same-starts}
use Rattle.qp_port_qk.specs.Jobs.{JobMayEnd, QkJobRests, QkJobStands, qk_is_left_in, QkJobIsAlone, qk_starts_of}
use Rattle.qp_port_qk.specs.KernelRests.{KernelEnds}
use Rattle.qp_port_qk.specs.Numbers.{job_rows, numbers_of}
use Rattle.qp_port_qk.specs.Resting.{AreLeft, AreShownBy, AreShownFirst}
use Rattle.qp_port_qk.specs.Rows.{AreSources, IsKernel, IsQkRow, IsQkSourceOf}
use Rattle.qp_port_lanes.specs.Workers.{AreSameLanes}
use Rattle.qp_port_qk.specs.Workers.{IsSameQkWorker, QkMayBegin, QkMayEnd, QkMayTurn, FirstBegins, IsBlank, OthersAre}
use Rattle.qp_port_qk.proofs.Beginning.{AreReadyAll}
use Rattle.qp_port_qk.proofs.Ending.{has-turned}
use Rattle.qp_port_qk.proofs.Resting.{based-rest, no-rests, shown-rests}
use Rattle.qp_port_qk.proofs.Rows.{ends-so, lanes-still, lost-none, ready-all, ready-both, ready-map, ready-none, ready-same, row-still, settles-are, turns-rest}
use Rattle.qp_dispatch.specs.declared.objects.Turn.TheVariants as turn

-- the objects of the system are those that lanes look at
objects-from : (sys : System) → IsSound sys → (v : LaneView) → v.sys ≡ sys → (ds : List ObjectDef) → AllByRecursion (λ d. IsObjectWithChart sys d.priority) ds → AreObjects v (map (λ d. d.priority) ds)
objects-from sys sound v of [] h = tt
objects-from sys sound v of (d ∷ ds) h = (
  subst (λ u. is_object u d.priority ≡ true) (sym of) (subst (λ p. is_object sys p ≡ true) h.0.is (is-object sys sound h.0.object h.0.found)),
  objects-from sys sound v of ds h.1,
)

-- One worker.

first-ends : (sys : System) (budget : ℕ) (x : QkJob) (v : LaneView) → IsKernel x → JobMayEnd sys budget x v → KernelEnds sys budget v
first-ends sys budget (job.Kernel xs k) v is h = h
first-ends sys budget (job.Source x) v is h = absurd is

source-early : (sys : System) (budget end : ℕ) (ss : List Stim) (v : LaneView) → may_cut end ≡ true → (x : QkJob) → IsQkSourceOf ss x → JobMayEnd sys budget x v → SourceLeaves sys qk end ss v.told
source-early sys budget end ss v early (job.Source x) is h = subst (λ xs. SourceLeaves sys qk end xs v.told) is (h qk end refl early)
source-early sys budget end ss v early (job.Kernel xs k) is h = absurd is

source-quiet : (sys : System) (budget : ℕ) (ss : List Stim) (v : LaneView) (x : QkJob) → IsQkSourceOf ss x → qk_is_left_in x ≡ false → QkJobRests sys budget x v → SourceLeaves sys qk quiet ss v.told × (v.hands ≡ [])
source-quiet sys budget ss v (job.Source x) is none h = (subst (λ xs. SourceLeaves sys qk quiet xs v.told) is (done-end sys x v qk quiet h refl none), h.at.hands)
source-quiet sys budget ss v (job.Kernel xs k) is none h = absurd is

first-rows : (sys : System) (budget : ℕ) (x : QkJob) (v : LaneView) → IsKernel x → job_rows sys budget x v ≡ idle_rows sys (under_qk budget) v
first-rows sys budget (job.Kernel xs k) v is = refl
first-rows sys budget (job.Source x) v is = absurd is

first-quiet : (sys : System) (budget : ℕ) → IsSound sys → (x : QkJob) (v : LaneView) (sources : List LaneView) → IsKernel x → QkJobRests sys budget x v → ((a : ℕ) → IsTrue (is_object sys a) → IsLastLook (v ∷ sources) a v) → HaveNone sources
    → EndsSo sys (under_qk budget) quiet v.told (has_stim (lanes_of v)) × QkRests sys budget v sources
first-quiet sys budget sound (job.Kernel xs k) v sources is h looks none = (
  turned_kernels_end sys budget h.first h.start (stand_of k xs v) quiet (has-turned sys budget sound xs k v h) (inl refl),
  turned_kernels_rest sys budget h.first h.start (stand_of k xs v) sources (has-turned sys budget sound xs k v h) looks none,
)
first-quiet sys budget sound (job.Source x) v sources is h looks none = absurd is

first-told : (acts : Bool) (sys : System) (budget : ℕ) (t : Turn) (x : QkJob) (v : LaneView) (rests : List Rest) → IsSound sys → is_short t ≡ false → QkJobStands sys budget t x v → AreShownBy x rests → AreRests sys (λ o. own_told o v.told) rests
first-told acts sys budget t (job.Source x) v rests sound long h shown = subst (AreRests sys (λ o. own_told o v.told)) (sym shown) (no-rests sys (λ o. own_told o v.told))
first-told acts sys budget turn.Idle (job.Kernel xs k) v rests sound long h shown = shown-rests sys sound (stand_of k xs v) (based-rest sys budget sound xs k v h) rests shown
first-told acts sys budget turn.Stopped (job.Kernel xs k) v rests sound long h shown = shown-rests sys sound (stand_of k xs v) h.0.others rests shown
first-told acts sys budget turn.Memory (job.Kernel xs k) v rests sound long h shown = absurd (cc)

-- The last look.

module _ {T : Type 0} (view : T → LaneView) where
  below-at : (v : LaneView) (ws : List T) → AllBelow view v ws → (a n : ℕ) (u : LaneView) → IsLaneAt (map view ws) n u → u.mark (word.Queue a) ≤ v.mark (word.Queue a)
  below-at v [] h a zero u at = absurd (cc)
  below-at v [] h a (suc n) u at = absurd (cc)
  below-at v (w ∷ ws) h a zero u at = let same : view w ≡ u = some-same at in subst (λ (x : LaneView). x.mark (word.Queue a) ≤ v.mark (word.Queue a)) same (h.0 (word.Queue a))
  below-at v (w ∷ ws) h a (suc n) u at = below-at v ws h.1 a n u at

  below-all : (w : T) (ws : List T) → AllBelow view (view w) ws → (a n : ℕ) (u : LaneView) → IsLaneAt (view w ∷ map view ws) n u → u.mark (word.Queue a) ≤ (view w).mark (word.Queue a)
  below-all w ws h a zero u at = let same : view w ≡ u = some-same at in subst (λ (x : LaneView). x.mark (word.Queue a) ≤ (view w).mark (word.Queue a)) same (omega arith)
  below-all w ws h a (suc n) u at = below-at (view w) ws h a n u at

  empty-of : (v : LaneView) (ds : List ObjectDef) → AreEmpty (map (λ d. d.priority) ds) v → AllByRecursion (λ d. IsEmpty v d.priority) ds
  empty-of v [] h = tt
  empty-of v (d ∷ ds) h = (h.0, empty-of v ds h.1)

  empty-at : (sys : System) (v : LaneView) (a : ℕ) → AreEmpty (priorities sys) v → IsTrue (is_object sys a) → IsEmpty v a
  unfolding object_at
  empty-at sys v a h its =
      let o = object-there sys a its in
      subst (IsEmpty v) o.2 (found-passes (λ d. IsEmpty v d.priority) o.0.priority sys.objects o.0 (empty-of v sys.objects h) o.1)

  pub last-look : (sys : System) (w : T) (ws : List T) → AllBelow view (view w) ws → AreEmpty (priorities sys) (view w) → (a : ℕ) → IsTrue (is_object sys a) → IsLastLook (view w ∷ map view ws) a (view w)
  last-look sys w ws below empty a its =
      let e = empty-at sys (view w) a empty its in
      let none = e.empty in
      record { below = λ n u at. below-all w ws below a n u at; f = e.f; l = e.l; m = e.m; says = e.shown; none = omega (arith, none) }

module _ {T : Type 0} (work : T → QkJob) (view : T → LaneView) (sys : System) (budget : ℕ) where
  sources-early : (end : ℕ) → may_cut end ≡ true → (more : List (List Stim)) (ws : List T) → AreSources work more ws → AreReady (λ w. JobMayEnd sys budget (work w) (view w)) ws → SourcesAre sys qk end more (map view ws)
  sources-early end early [] [] row h = tt
  sources-early end early (ss ∷ more) (w ∷ ws) row h = (source-early sys budget end ss (view w) early (work w) row.0 h.0, sources-early end early more ws row.1 h.1)
  sources-early end early [] (w ∷ ws) row h = absurd row
  sources-early end early (ss ∷ more) [] row h = absurd row

  sources-quiet : (more : List (List Stim)) (ws : List T) → AreSources work more ws → AreReady (λ w. QkJobRests sys budget (work w) (view w)) ws → AreReady (λ w. qk_is_left_in (work w) ≡ false) ws
      → SourcesAre sys qk quiet more (map view ws) × HaveNone (map view ws)
  sources-quiet [] [] row h none = (tt, tt)
  sources-quiet (ss ∷ more) (w ∷ ws) row h none =
      let here = source-quiet sys budget ss (view w) (work w) row.0 none.0 h.0 in
      let behind = sources-quiet more ws row.1 h.1 none.1 in
      ((here.0, behind.0), (here.1, behind.1))
  sources-quiet [] (w ∷ ws) row h none = absurd row
  sources-quiet (ss ∷ more) [] row h none = absurd row

  sources-apart : (floor : Word → ℕ) (more : List (List Stim)) (ws : List T) → AreSources work more ws → AreReady (λ w. IsApart floor (qk_starts_of sys (work w)) (untold_all (view w).told)) ws → AreApart floor 0 (map view ws)
  sources-apart floor [] [] row h = tt
  sources-apart floor (ss ∷ more) (w ∷ ws) row h = (by (work w) row.0 h.0, sources-apart floor more ws row.1 h.1)
    where
      by : (x : QkJob) → IsQkSourceOf ss x → IsApart floor (qk_starts_of sys x) (untold_all (view w).told) → IsApart floor 0 (untold_all (view w).told)
      by (job.Source x) is apart = apart
      by (job.Kernel xs k) is apart = absurd is
  sources-apart floor [] (w ∷ ws) row h = absurd row
  sources-apart floor (ss ∷ more) [] row h = absurd row

  first-apart : (floor : Word → ℕ) (x : QkJob) (v : LaneView) → IsKernel x → IsApart floor (qk_starts_of sys x) (untold_all v.told) → IsApart floor (length sys.objects) (untold_all v.told)
  first-apart floor (job.Kernel xs k) v is apart = apart
  first-apart floor (job.Source x) v is apart = absurd is

  pub ends-all : (sound : IsSound sys) (stimuli : List (List Stim)) (done : Bool) (rests : List Rest) (w : T) (ws : List T) → IsQkRow work stimuli (w ∷ ws) → AreReady (λ w. JobMayEnd sys budget (work w) (view w)) (w ∷ ws)
      → (done ≡ true → AreReady (λ w. QkJobRests sys budget (work w) (view w)) (w ∷ ws) × HasEnded view (λ w. qk_is_left_in (work w)) (priorities sys) (w ∷ ws))
      → job_rows sys budget (work w) (view w) ≤ settles_in (map view (w ∷ ws)) + 1 → AreRests sys (λ o. own_told o (view w).told) rests → AreAllApart (λ u. qk_starts_of sys (work u)) view (w ∷ ws) → HasQkRun sys stimuli budget done rests (map view (w ∷ ws))
  ends-all sound stimuli done rests w ws row h quietly few told apart = record {
    first = view w;
    sources = map view ws;
    are = refl;
    early = λ end early. record { zero = first-ends sys budget (work w) (view w) row.0 h.0 end early; leave = sources-early end early stimuli ws row.1 h.1 };
    quietly = λ is.
        let all = quietly is in
        let none = sources-quiet stimuli ws row.1 all.0.1 (ready-none (λ w. qk_is_left_in (work w)) ws all.1.none) in
        let first = first-quiet sys budget sound (work w) (view w) (map view ws) row.0 all.0.0 (last-look view sys w ws all.1.below all.1.empty) none.1 in
        record { ends = record { zero = first.0; leave = none.0 }; rests = first.1 };
    rows = subst (λ n. n ≤ settles_in (map view (w ∷ ws)) + 1) (first-rows sys budget (work w) (view w) row.0) few;
    told = told;
    starts = record { floor = apart.floor; zero_apart = first-apart apart.floor (work w) (view w) row.0 apart.each.0; sources_apart = sources-apart apart.floor stimuli ws row.1 apart.each.1 };
  }

module _ (acts : Bool) (alone : acts ≡ false) (sys : System) (stimuli : List (List Stim)) (budget : ℕ) (sound : IsSound sys) (fit : StimuliFit sys stimuli) (few : budget ≤ 1000000)
    {T : Type 0} (s : T → System) (b : T → ℕ) (t : T → Turn) (work : T → QkJob) (view : T → LaneView) (xs : List T) (all : AreReadyAll acts alone sys stimuli budget sound fit few s b t work view xs) where
  pub one-table : (objects : List ℕ) → objects ≡ priorities sys → AreOneTable view objects xs
  one-table objects are = rw all.are (all.together_are, subst (AreObjects (view all.first)) (sym are) (objects-from sys sound (view all.first) all.of sys.objects (named sys sound)))

  abbrev Same : T → T → Type 0
  Same x y = IsSameQkWorker (s x) (s y) (b x) (b y) (work x) (work y) (view x) (view y)

  module _ (ys : List T) (same : SameEach Same xs ys) where
    pub same-lanes : AreSameLanes (map view xs) (map view ys)
    same-lanes = lanes-still view Same (λ x y h. h.lane) xs ys same

    row : IsQkRow work stimuli ys
    row = row-still work Same (λ x y h. h.job) stimuli xs ys same all.row

    terms : AreReady (λ w. (s w ≡ sys) × (b w ≡ budget)) ys
    terms = ready-same Same (λ w. (s w ≡ sys) × (b w ≡ budget)) (λ x y h k. (h.sys ∙ k.0, h.budget ∙ k.1)) xs ys same all.terms

    ends-may : AreReady (λ w. QkMayEnd (s w) (b w) (t w) (work w) (view w)) ys → list_any (λ w. is_short (t w)) ys ≡ false → AreReady (λ w. JobMayEnd sys budget (work w) (view w)) ys
    ends-may ends long =
        ready-map (λ w. (QkMayEnd (s w) (b w) (t w) (work w) (view w) × (is_short (t w) ≡ false)) × ((s w ≡ sys) × (b w ≡ budget))) (λ w. JobMayEnd sys budget (work w) (view w))
        (λ w h. subst (λ n. JobMayEnd sys n (work w) (view w)) h.1.1 (subst (λ u. JobMayEnd u (b w) (work w) (view w)) h.1.0 (ends-so (s w) (b w) (t w) (work w) (view w) h.0.1 h.0.0)))
        ys
        (ready-both (λ w. QkMayEnd (s w) (b w) (t w) (work w) (view w) × (is_short (t w) ≡ false)) (λ w. (s w ≡ sys) × (b w ≡ budget)) ys
        (ready-both (λ w. QkMayEnd (s w) (b w) (t w) (work w) (view w)) (λ w. is_short (t w) ≡ false) ys ends (ready-none (λ w. is_short (t w)) ys long)) terms)

    rests-all : AreReady (λ w. QkMayTurn acts (s w) (b w) (t w) (work w) (view w)) ys → list_all (λ w. is_idle (t w)) ys ≡ true → AreReady (λ w. QkJobRests sys budget (work w) (view w)) ys
    rests-all ready idle =
        ready-map (λ w. (QkMayTurn acts (s w) (b w) (t w) (work w) (view w) × (is_idle (t w) ≡ true)) × ((s w ≡ sys) × (b w ≡ budget))) (λ w. QkJobRests sys budget (work w) (view w))
        (λ w h. subst (λ n. QkJobRests sys n (work w) (view w)) h.1.1 (subst (λ u. QkJobRests u (b w) (work w) (view w)) h.1.0 (turns-rest acts (s w) (b w) (t w) (work w) (view w) h.0.1 h.0.0)))
        ys
        (ready-both (λ w. QkMayTurn acts (s w) (b w) (t w) (work w) (view w) × (is_idle (t w) ≡ true)) (λ w. (s w ≡ sys) × (b w ≡ budget)) ys
        (ready-both (λ w. QkMayTurn acts (s w) (b w) (t w) (work w) (view w)) (λ w. is_idle (t w) ≡ true) ys ready (ready-all (λ w. is_idle (t w)) ys idle)) terms)

    pub ran : (how : Option PhasesEnd) (done : Bool) (rests : List Rest) (objects : List ℕ) → objects ≡ priorities sys → AreReady (λ w. QkMayEnd (s w) (b w) (t w) (work w) (view w)) ys
        → ((e : PhasesEnd) → how ≡ Some e → AreReady (λ w. QkMayTurn acts (s w) (b w) (t w) (work w) (view w)) ys) → HasFewRows (λ w. numbers_of (s w) (b w) (t w) (work w) (view w)) 1 ys
        → (how ≡ Some ended.Idle → HasEnded view (λ w. qk_is_left_in (work w)) objects ys)
        → AreLeft work how ys rests → list_any (λ w. is_short (t w)) ys ≡ false → (done ≡ true → (how ≡ Some ended.Idle) × (list_all (λ w. is_idle (t w)) ys ≡ true))
        → StartFirst view (λ w. QkJobIsAlone (s w) (t w) (work w) (view w)) (λ w. AreStarts (qk_starts_of (s w) (work w)) (untold_all (view w).told)) Same xs ys → HasQkRun sys stimuli budget done rests (map view ys)
    ran how done rests objects are ends ready rows idle shown long quietly starts = by ys refl
      where
        nothing-told : AreReady (λ w. (view w).told ≡ []) xs
        nothing-told = subst (AreReady (λ w. (view w).told ≡ [])) (sym all.are) (
          (subst (FirstBegins (λ w. QkMayBegin acts (s w) (b w) (t w) (work w) (view w)) (λ w. QkMayTurn acts (s w) (b w) (t w) (work w) (view w))) all.are all.begin).0.none,
          ready-map (λ w. IsBlank (s w) (work w) (view w)) (λ w. (view w).told ≡ []) (λ w h. h.none) all.others (subst (OthersAre (λ w. IsBlank (s w) (work w) (view w))) all.are all.blank),
        )

        -- of the system of all
        apart-at : (zs : List T) (floor : Word → ℕ) → AreReady (λ w. (s w ≡ sys) × (b w ≡ budget)) zs → AreReady (λ w. IsApart floor (qk_starts_of (s w) (work w)) (untold_all (view w).told)) zs → AreReady (λ w. IsApart floor (qk_starts_of sys (work w)) (untold_all (view w).told)) zs
        apart-at [] floor at h = tt
        apart-at (z ∷ zs) floor at h = (subst (λ u. IsApart floor (qk_starts_of u (work z)) (untold_all (view z).told)) at.0.0 h.0, apart-at zs floor at.1 h.1)

        apart : AreAllApart (λ u. qk_starts_of sys (work u)) view ys
        apart =
            let a = apart-each (λ w. qk_starts_of (s w) (work w)) (λ w. is_short (t w)) view Same (λ x y h. qk-same-starts (s x) (s y) (work x) (work y) h.sys h.job) (λ x y h. h.lane.advances) xs ys nothing-told same (ready-none (λ w. is_short (t w)) ys long) starts in
            record { floor = a.floor; each = apart-at ys a.floor terms a.each }

        told-by : (h : Option PhasesEnd) → how ≡ h → (w : T) (ws : List T) → ys ≡ w ∷ ws → is_short (t w) ≡ false → s w ≡ sys → AreRests sys (λ o. own_told o (view w).told) rests
        told-by None is w ws at free of = subst (AreRests sys (λ o. own_told o (view w).told)) (sym (subst (λ h. AreLeft work h ys rests) is shown)) (no-rests sys (λ o. own_told o (view w).told))
        told-by (Some e) is w ws at free of =
            let turns = subst (AreReady (λ w. QkMayTurn acts (s w) (b w) (t w) (work w) (view w))) at (ready e is) in
            let mine : AreShownFirst work (w ∷ ws) rests = subst (λ us. AreShownFirst work us rests) at (subst (λ h. AreLeft work h ys rests) is shown) in
            first-told acts sys (b w) (t w) (work w) (view w) rests sound free (subst (λ u. QkJobStands u (b w) (t w) (work w) (view w)) of turns.0.stands) mine

        by : (zs : List T) → ys ≡ zs → HasQkRun sys stimuli budget done rests (map view ys)
        by [] at = absurd (subst (IsQkRow work stimuli) at row)
        by (w ∷ ws) at =
            let long-here = ready-none (λ w. is_short (t w)) (w ∷ ws) (subst (λ us. list_any (λ w. is_short (t w)) us ≡ false) at long) in
            let here = subst (AreReady (λ w. (s w ≡ sys) × (b w ≡ budget))) at terms in
            let count = (subst (HasFewRows (λ w. numbers_of (s w) (b w) (t w) (work w) (view w)) 1) at rows) (lost-none s b t work view (w ∷ ws) (subst (λ us. list_any (λ w. is_short (t w)) us ≡ false) at long)) in
            let settles = settles-are s b t work view (w ∷ ws) in
            let mine : job_rows sys budget (work w) (view w) ≤ settles_in (map view (w ∷ ws)) + 1 =
            subst (λ n. job_rows sys n (work w) (view w) ≤ settles_in (map view (w ∷ ws)) + 1) here.0.1
            (subst (λ u. job_rows u (b w) (work w) (view w) ≤ settles_in (map view (w ∷ ws)) + 1) here.0.0
            (subst (λ n. job_rows (s w) (b w) (work w) (view w) ≤ n + 1) settles count)) in
            subst (λ us. HasQkRun sys stimuli budget done rests (map view us)) (sym at)
            (ends-all work view sys budget sound stimuli done rests w ws (subst (IsQkRow work stimuli) at row)
            (subst (AreReady (λ w. JobMayEnd sys budget (work w) (view w))) at (ends-may ends long))
            (λ is. (
              subst (AreReady (λ w. QkJobRests sys budget (work w) (view w))) at (rests-all (ready ended.Idle (quietly is).0) (quietly is).1),
              subst (HasEnded view (λ w. qk_is_left_in (work w)) (priorities sys)) at (subst (λ os. HasEnded view (λ w. qk_is_left_in (work w)) os ys) are (idle (quietly is).0)),
            ))
            mine (told-by how refl w ws at long-here.0 here.0.0) (subst (AreAllApart (λ u. qk_starts_of sys (work u)) view) at apart))

-- Why something is left to be done.

halted-one : (acts : Bool) (sys : System) (budget : ℕ) (t : Turn) (x : QkJob) (v : LaneView) → is_idle t ≡ false → is_short t ≡ false → QkMayTurn acts sys budget t x v ⊎ QkMayEnd sys budget t x v → HasStopped v
halted-one acts sys budget turn.Idle x v none long h = absurd (cc)
halted-one acts sys budget turn.Stopped x v none long (inl h) = h.stands.1
halted-one acts sys budget turn.Stopped x v none long (inr h) = h.ends.1
halted-one acts sys budget turn.Memory x v none long h = absurd (cc)

module _ {T : Type 0} (acts : Bool) (s : T → System) (b : T → ℕ) (t : T → Turn) (work : T → QkJob) (view : T → LaneView) where
  any-halted : (ws : List T) → list_all (λ w. is_idle (t w)) ws ≡ false → list_any (λ w. is_short (t w)) ws ≡ false
      → AreReady (λ w. QkMayTurn acts (s w) (b w) (t w) (work w) (view w) ⊎ QkMayEnd (s w) (b w) (t w) (work w) (view w)) ws → AnyStopped (map view ws)
  any-halted [] none long h = absurd (cc)
  any-halted (w ∷ ws) none long h =
      let parts = or_parts (is_short (t w)) (list_any (λ u. is_short (t u)) ws) long in
      by (is_idle (t w)) refl none (λ later. any-halted ws later parts.1 h.1) (λ here. halted-one acts (s w) (b w) (t w) (work w) (view w) here parts.0 h.0)
    where
      by : (i : Bool) → is_idle (t w) ≡ i → (i && list_all (λ u. is_idle (t u)) ws) ≡ false → (list_all (λ u. is_idle (t u)) ws ≡ false → AnyStopped (map view ws)) → (is_idle (t w) ≡ false → HasStopped (view w)) → AnyStopped (map view (w ∷ ws))
      by true e none more here = inr (more none)
      by false e none more here = inl (here e)

  fed-either : (w : T) → is_short (t w) ≡ false → QkMayTurn acts (s w) (b w) (t w) (work w) (view w) ⊎ QkMayEnd (s w) (b w) (t w) (work w) (view w) → IsFed (view w)
  fed-either w long (inl h) = h.fed long
  fed-either w long (inr h) = h.fed long

  -- none handed in 7
  pub all-fed : (ws : List T) → list_any (λ w. is_short (t w)) ws ≡ false → AreReady (λ w. QkMayTurn acts (s w) (b w) (t w) (work w) (view w) ⊎ QkMayEnd (s w) (b w) (t w) (work w) (view w)) ws
      → AllByRecursion IsFed (map view ws)
  all-fed [] long h = tt
  all-fed (w ∷ ws) long h = let parts = or_parts (is_short (t w)) (list_any (λ u. is_short (t u)) ws) long in (fed-either w parts.0 h.0, all-fed ws parts.1 h.1)

  first-halted : (memory : Bool) (xs ys : List T) → FirstFound view memory xs ys → AnyStopped (map view ys)
  first-halted memory (x ∷ xs) (y ∷ ys) h = let long = ap length h.answered in inl (inr (omega (arith, long)))
  first-halted memory [] ys h = absurd h
  first-halted memory (x ∷ xs) [] h = absurd h

  pub cause : (xs ys : List T) (how : Option PhasesEnd) → (how ≡ None → list_all (λ w. is_idle (t w)) ys ≡ false) → (how ≡ Some ended.Stopped → FirstFound view false xs ys) → (how ≡ Some ended.Memory → FirstFound view true xs ys)
      → AreReady (λ w. QkMayTurn acts (s w) (b w) (t w) (work w) (view w) ⊎ QkMayEnd (s w) (b w) (t w) (work w) (view w)) ys → list_any (λ w. is_short (t w)) ys ≡ false
      → (has_ended_idle how ≡ false) ⊎ (list_all (λ w. is_idle (t w)) ys ≡ false) → AnyStopped (map view ys)
  cause xs ys how none stopped memory each long (inr left) = any-halted ys left long each
  cause xs ys None none stopped memory each long (inl left) = any-halted ys (none refl) long each
  cause xs ys (Some ended.Idle) none stopped memory each long (inl left) = absurd (cc)
  cause xs ys (Some ended.Stopped) none stopped memory each long (inl left) = first-halted false xs ys (stopped refl)
  cause xs ys (Some ended.Memory) none stopped memory each long (inl left) = first-halted true xs ys (memory refl)

-- The lanes themselves, as they are given and left.

pub ok-map : {A E : Type 0} (P Q : A → Type 0) → ((a : A) → P a → Q a) → (r : Result A E) → IfOk r P → IfOk r Q
ok-map P Q f (Ok a) h = f a h
ok-map P Q f (Err e) h = tt

pub ok-both : {A E : Type 0} (C : Type 0) (P Q : A → Type 0) → ((a : A) → P a → C → Q a) → (r : Result A E) → IfOk r P → OnOk r C → IfOk r Q
ok-both C P Q f (Ok a) h k = f a h k
ok-both C P Q f (Err e) h k = tt

pub ok-all : {A E : Type 0} (C : Type 0) (P Q R S : A → Type 0) → ((a : A) → P a → Q a → C → R a → S a) → (r : Result A E) → IfOk r P → IfOk r Q → OnOk r C → IfOk r R → IfOk r S
ok-all C P Q R S f (Ok a) h k m n = f a h k m n
ok-all C P Q R S f (Err e) h k m n = tt

seen-both : {T L : Type 0} (lane : T → L) (see : L → LaneView) (ws : List T) → map see (map lane ws) ≡ map (λ w. see (lane w)) ws
seen-both lane see [] = refl
seen-both lane see (w ∷ ws) = ap (λ vs. see (lane w) ∷ vs) (seen-both lane see ws)

pub lanes-left : {T L : Type 0} (lane : T → L) (see : L → LaneView) (ls ms : List L) (xs ys : List T) → ls ≡ map lane xs → ms ≡ map lane ys → AreSameLanes (map (λ w. see (lane w)) xs) (map (λ w. see (lane w)) ys) → AreSameLanes (map see ls) (map see ms)
lanes-left lane see ls ms xs ys given left same =
    subst (λ vs. AreSameLanes vs (map see ms)) (sym (ap (map see) given ∙ seen-both lane see xs)) (subst (AreSameLanes (map (λ w. see (lane w)) xs)) (sym (ap (map see) left ∙ seen-both lane see ys)) same)

pub cause-left : {T L : Type 0} (lane : T → L) (see : L → LaneView) (ms : List L) (ys : List T) → ms ≡ map lane ys → AnyStopped (map (λ w. see (lane w)) ys) → AnyStopped (map see ms)
cause-left lane see ms ys left some = subst AnyStopped (sym (ap (map see) left ∙ seen-both lane see ys)) some

pub fed-left : {T L : Type 0} (lane : T → L) (see : L → LaneView) (ms : List L) (ys : List T) → ms ≡ map lane ys → AllByRecursion IsFed (map (λ w. see (lane w)) ys) → AllByRecursion IsFed (map see ms)
fed-left lane see ms ys left all = subst (AllByRecursion IsFed) (sym (ap (map see) left ∙ seen-both lane see ys)) all

pub run-left : {T L : Type 0} (lane : T → L) (see : L → LaneView) (sys : System) (stimuli : List (List Stim)) (budget : ℕ) (done : Bool) (rests : List Rest) (ms : List L) (ys : List T) → ms ≡ map lane ys
    → HasQkRun sys stimuli budget done rests (map (λ w. see (lane w)) ys) → HasQkRun sys stimuli budget done rests (map see ms)
run-left lane see sys stimuli budget done rests ms ys left run = subst (HasQkRun sys stimuli budget done rests) (sym (ap (map see) left ∙ seen-both lane see ys)) run

-- A vector has all of what was written through it.

pub taken-whole : {A : Type 0} (n : ℕ) (xs ys : List A) → n ≡ length xs → take n (xs ++ ys) ≡ xs
taken-whole zero [] [] h = refl
taken-whole zero [] (y ∷ ys) h = refl
taken-whole zero (x ∷ xs) ys h = absurd (omega (arith, h))
taken-whole (suc n) [] ys h = absurd (omega (arith, h))
taken-whole (suc n) (x ∷ xs) ys h = ap (λ zs. x ∷ zs) (taken-whole n xs ys (omega (arith, h)))

pub each-long : {T : Type 0} (Same : T → T → Type 0) (xs ys : List T) → SameEach Same xs ys → length ys ≡ length xs
each-long Same [] [] h = refl
each-long Same (x ∷ xs) (y ∷ ys) h = ap suc (each-long Same xs ys h.1)
each-long Same [] (y ∷ ys) h = absurd h
each-long Same (x ∷ xs) [] h = absurd h
