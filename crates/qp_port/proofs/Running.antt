-- From workers before their start to the lanes that their run leaves.
use Rattle.std.proofs.Common.{◌≡◌, ℕ, ◌≤◌, Bool, true, false, ◌&&◌, List, [], ◌∷◌, map, length, refl, sym, ◌∙◌, ap, subst, inl, inr, arith, Ok, Err}
use Rattle.std.specs.Prelude.{◌⊎◌}
use Rattle.std.proofs.lemmas.Bool.{or_parts}
use Rattle.std.specs.List.{list_all, list_any, AllByRecursion}
use Rattle.std.specs.declared.result.Result.{Result}
use Rattle.std.specs.Result.{IfOk, OnOk}
use Rattle.qp_model.specs.declared.stimulus.Stim.{Stim}
use Rattle.qp_model.specs.declared.systems.System.{System}
use Rattle.qp_model.specs.declared.systems.ObjectDef.{ObjectDef}
use Rattle.qp_model.specs.Sound.{IsSound}
use Rattle.qp_model.specs.Sources.{priorities}
use Rattle.qp_model.specs.WordLaw.{is_object}
use Rattle.qp_stim.specs.Rules.{StimuliFit}
use Rattle.qp_calls.specs.LaneView.{LaneView}
use Rattle.qp_dispatch.specs.declared.objects.Turn.{Turn}
use Rattle.qp_dispatch.specs.declared.objects.Turn.TheVariants as turn
use Rattle.qp_kernel_end.specs.declared.rest.Rest.{Rest}
use Rattle.qp_kernel_turns.specs.Knowing.{IsObjectWithChart}
use Rattle.qp_kernel_turns.proofs.SoundObjects.{is-object, named}
use Rattle.qp_port_phases.specs.Turns.{AreReady}
use Rattle.qp_port_phases.specs.declared.phases.PhasesEnd.{PhasesEnd}
use Rattle.qp_port_phases.specs.declared.phases.PhasesEnd.TheVariants as ended
use Rattle.qp_port_phases.specs.Lanes.{AreObjects, AreOneTable, SameEach}
use Rattle.qp_port_phases.specs.Quiet.{FirstFound, HasEnded}
use Rattle.qp_port_phases.specs.Stopping.{AnyStopped, HasStopped}
use Rattle.qp_port.specs.declared.job.Job.{Job}
use Rattle.qp_port.specs.Ends.{HasRun}
use Rattle.qp_port_lanes.specs.Answers.{IsFed, is_idle, is_short}
use Rattle.qp_port.specs.Jobs.{JobIsAlone, JobRests, JobStops, is_left_in, starts_of}
use Rattle.qp_port.specs.Resting.{AreShown}
use Rattle.qp_port.specs.Rows.{IsRow}
use Rattle.qp_port_lanes.specs.Workers.{AreSameLanes}
use Rattle.qp_model_order.specs.SourceRun.{untold_all}
use Rattle.qp_kernel.specs.Starts.{AreStarts}
use Rattle.qp_port_phases.specs.Starting.{StartFirst}
use Rattle.qp_port.specs.Alone.{same-starts}
use Rattle.qp_port.specs.Workers.{IsSameWorker, MayBegin, MayEnd, MayTurn}
use Rattle.qp_port_law.proofs.Apart.{apart-each}
use Rattle.qp_port.proofs.Beginning.{AreReadyAll}
use Rattle.qp_port.proofs.Ending.{has-run}
use Rattle.qp_port.proofs.Rows.{ends-stop, lanes-still, ready-all, ready-both, ready-map, ready-none, ready-same, row-still, turns-rest}

-- the objects of the system are those that lanes look at
objects-from : (sys : System) → IsSound sys → (v : LaneView) → v.sys ≡ sys → (ds : List ObjectDef) → AllByRecursion (λ d. IsObjectWithChart sys d.priority) ds → AreObjects v (map (λ d. d.priority) ds)
objects-from sys sound v of [] h = tt
objects-from sys sound v of (d ∷ ds) h = (
  subst (λ u. is_object u d.priority ≡ true) (sym of) (subst (λ p. is_object sys p ≡ true) h.0.is (is-object sys sound h.0.object h.0.found)),
  objects-from sys sound v of ds h.1,
)

module _ (sys : System) (stimuli : List (List Stim)) (budget : ℕ) (sound : IsSound sys) (fit : StimuliFit sys stimuli) (few : budget ≤ 1000000)
    {T : Type 0} (s : T → System) (b : T → ℕ) (t : T → Turn) (work : T → Job) (view : T → LaneView) (xs : List T) (all : AreReadyAll sys stimuli budget sound fit few s b t work view xs) where
  pub one-table : (objects : List ℕ) → objects ≡ priorities sys → AreOneTable view objects xs
  one-table objects are = rw all.are (all.together_are, subst (AreObjects (view all.first)) (sym are) (objects-from sys sound (view all.first) all.of sys.objects (named sys sound)))

  abbrev Same : T → T → Type 0
  Same x y = IsSameWorker (s x) (s y) (b x) (b y) (work x) (work y) (view x) (view y)

  module _ (ys : List T) (same : SameEach Same xs ys) where
    pub same-lanes : AreSameLanes (map view xs) (map view ys)
    same-lanes = lanes-still view Same (λ x y h. h.lane) xs ys same

    row : IsRow work sys.objects stimuli ys
    row = row-still work Same (λ x y h. h.job) sys.objects stimuli xs ys same all.row

    terms : AreReady (λ w. (s w ≡ sys) × (b w ≡ budget)) ys
    terms = ready-same Same (λ w. (s w ≡ sys) × (b w ≡ budget)) (λ x y h k. (h.sys ∙ k.0, h.budget ∙ k.1)) xs ys same all.terms

    stops : AreReady (λ w. MayEnd (s w) (b w) (t w) (work w) (view w)) ys → list_any (λ w. is_short (t w)) ys ≡ false → AreReady (λ w. JobStops sys budget (work w) (view w)) ys
    stops ends long =
        ready-map (λ w. (MayEnd (s w) (b w) (t w) (work w) (view w) × (is_short (t w) ≡ false)) × ((s w ≡ sys) × (b w ≡ budget))) (λ w. JobStops sys budget (work w) (view w))
        (λ w h. subst (λ n. JobStops sys n (work w) (view w)) h.1.1 (subst (λ u. JobStops u (b w) (work w) (view w)) h.1.0 (ends-stop (s w) (b w) (t w) (work w) (view w) h.0.1 h.0.0)))
        ys
        (ready-both (λ w. MayEnd (s w) (b w) (t w) (work w) (view w) × (is_short (t w) ≡ false)) (λ w. (s w ≡ sys) × (b w ≡ budget)) ys
        (ready-both (λ w. MayEnd (s w) (b w) (t w) (work w) (view w)) (λ w. is_short (t w) ≡ false) ys ends (ready-none (λ w. is_short (t w)) ys long)) terms)

    rests-all : AreReady (λ w. MayTurn (s w) (b w) (t w) (work w) (view w)) ys → list_all (λ w. is_idle (t w)) ys ≡ true → AreReady (λ w. JobRests sys budget (work w) (view w)) ys
    rests-all ready idle =
        ready-map (λ w. (MayTurn (s w) (b w) (t w) (work w) (view w) × (is_idle (t w) ≡ true)) × ((s w ≡ sys) × (b w ≡ budget))) (λ w. JobRests sys budget (work w) (view w))
        (λ w h. subst (λ n. JobRests sys n (work w) (view w)) h.1.1 (subst (λ u. JobRests u (b w) (work w) (view w)) h.1.0 (turns-rest (s w) (b w) (t w) (work w) (view w) h.0.1 h.0.0)))
        ys
        (ready-both (λ w. MayTurn (s w) (b w) (t w) (work w) (view w) × (is_idle (t w) ≡ true)) (λ w. (s w ≡ sys) × (b w ≡ budget)) ys
        (ready-both (λ w. MayTurn (s w) (b w) (t w) (work w) (view w)) (λ w. is_idle (t w) ≡ true) ys ready (ready-all (λ w. is_idle (t w)) ys idle)) terms)

    pub ran : (how : PhasesEnd) (done : Bool) (rests : List Rest) (objects : List ℕ) → objects ≡ priorities sys → AreReady (λ w. MayEnd (s w) (b w) (t w) (work w) (view w)) ys
        → (how ≡ ended.Idle → AreReady (λ w. MayTurn (s w) (b w) (t w) (work w) (view w)) ys) → (how ≡ ended.Idle → HasEnded view (λ w. is_left_in (work w)) objects ys)
        → AreShown work ys rests → list_any (λ w. is_short (t w)) ys ≡ false → (done ≡ true → (how ≡ ended.Idle) × (list_all (λ w. is_idle (t w)) ys ≡ true))
        → StartFirst view (λ w. JobIsAlone (t w) (work w) (view w)) (λ w. AreStarts (starts_of (work w)) (untold_all (view w).told)) Same xs ys → HasRun sys stimuli budget done rests (map view ys)
    ran how done rests objects are ends ready idle shown long quiet starts =
        has-run work view sys budget sound stimuli done rests ys row (stops ends long)
        (λ is. (rests-all (ready (quiet is).0) (quiet is).1, subst (λ os. HasEnded view (λ w. is_left_in (work w)) os ys) are (idle (quiet is).0))) shown
        (apart-each (λ w. starts_of (work w)) (λ w. is_short (t w)) view Same (λ x y h. same-starts (work x) (work y) h.job) (λ x y h. h.lane.advances) xs ys (ready-map (λ w. MayBegin (s w) (b w) (t w) (work w) (view w)) (λ w. (view w).told ≡ []) (λ w h. h.none) xs all.begin) same (ready-none (λ w. is_short (t w)) ys long) starts)

-- Why something is left to be done.

halted-one : (sys : System) (budget : ℕ) (t : Turn) (x : Job) (v : LaneView) → is_idle t ≡ false → is_short t ≡ false → MayTurn sys budget t x v ⊎ MayBegin sys budget t x v → HasStopped v
halted-one sys budget turn.Idle x v none long h = absurd (cc)
halted-one sys budget turn.Stopped x v none long (inl h) = h.stands.1
halted-one sys budget turn.Stopped x v none long (inr h) = let wrong : turn.Stopped ≡ turn.Idle = h.idle in absurd (cc)
halted-one sys budget turn.Memory x v none long h = absurd (cc)

module _ {T : Type 0} (s : T → System) (b : T → ℕ) (t : T → Turn) (work : T → Job) (view : T → LaneView) where
  any-halted : (ws : List T) → list_all (λ w. is_idle (t w)) ws ≡ false → list_any (λ w. is_short (t w)) ws ≡ false
      → AreReady (λ w. MayTurn (s w) (b w) (t w) (work w) (view w) ⊎ MayBegin (s w) (b w) (t w) (work w) (view w)) ws → AnyStopped (map view ws)
  any-halted [] none long h = absurd (cc)
  any-halted (w ∷ ws) none long h =
      let parts = or_parts (is_short (t w)) (list_any (λ u. is_short (t u)) ws) long in
      by (is_idle (t w)) refl none (λ later. any-halted ws later parts.1 h.1) (λ here. halted-one (s w) (b w) (t w) (work w) (view w) here parts.0 h.0)
    where
      by : (i : Bool) → is_idle (t w) ≡ i → (i && list_all (λ u. is_idle (t u)) ws) ≡ false → (list_all (λ u. is_idle (t u)) ws ≡ false → AnyStopped (map view ws)) → (is_idle (t w) ≡ false → HasStopped (view w)) → AnyStopped (map view (w ∷ ws))
      by true e none more here = inr (more none)
      by false e none more here = inl (here e)

  fed-either : (w : T) → is_short (t w) ≡ false → MayTurn (s w) (b w) (t w) (work w) (view w) ⊎ MayBegin (s w) (b w) (t w) (work w) (view w) → IsFed (view w)
  fed-either w long (inl h) = h.fed long
  fed-either w long (inr h) = h.fed

  -- none handed in 7
  pub all-fed : (ws : List T) → list_any (λ w. is_short (t w)) ws ≡ false → AreReady (λ w. MayTurn (s w) (b w) (t w) (work w) (view w) ⊎ MayBegin (s w) (b w) (t w) (work w) (view w)) ws
      → AllByRecursion IsFed (map view ws)
  all-fed [] long h = tt
  all-fed (w ∷ ws) long h = let parts = or_parts (is_short (t w)) (list_any (λ u. is_short (t u)) ws) long in (fed-either w parts.0 h.0, all-fed ws parts.1 h.1)

  first-halted : (memory : Bool) (xs ys : List T) → FirstFound view memory xs ys → AnyStopped (map view ys)
  first-halted memory (x ∷ xs) (y ∷ ys) h = let long = ap length h.answered in inl (inr (omega (arith, long)))
  first-halted memory [] ys h = absurd h
  first-halted memory (x ∷ xs) [] h = absurd h

  pub cause : (xs ys : List T) (how : PhasesEnd) → (how ≡ ended.Stopped → (list_all (λ w. is_idle (t w)) ys ≡ false) ⊎ FirstFound view false xs ys)
      → AreReady (λ w. MayTurn (s w) (b w) (t w) (work w) (view w) ⊎ MayBegin (s w) (b w) (t w) (work w) (view w)) ys → list_any (λ w. is_short (t w)) ys ≡ false
      → (how ≡ ended.Stopped) ⊎ (list_all (λ w. is_idle (t w)) ys ≡ false) → AnyStopped (map view ys)
  cause xs ys how stopped each long (inr none) = any-halted ys none long each
  cause xs ys how stopped each long (inl is) = by (stopped is)
    where
      by : (list_all (λ w. is_idle (t w)) ys ≡ false) ⊎ FirstFound view false xs ys → AnyStopped (map view ys)
      by (inl none) = any-halted ys none long each
      by (inr found) = first-halted false xs ys found

-- The same of a run that answers what it left.

map-both : {T L : Type 0} (lane : T → L) (see : L → LaneView) (ws : List T) → map see (map lane ws) ≡ map (λ w. see (lane w)) ws
map-both lane see [] = refl
map-both lane see (w ∷ ws) = ap (λ vs. see (lane w) ∷ vs) (map-both lane see ws)

module _ (sys : System) (stimuli : List (List Stim)) (budget : ℕ) (sound : IsSound sys) (fit : StimuliFit sys stimuli) (few : budget ≤ 1000000)
    {T L : Type 0} (s : T → System) (b : T → ℕ) (t : T → Turn) (work : T → Job) (lane : T → L) (see : L → LaneView) (xs : List T)
    (all : AreReadyAll sys stimuli budget sound fit few s b t work (λ w. see (lane w)) xs) (ys : List T)
    (same : SameEach (λ x y. IsSameWorker (s x) (s y) (b x) (b y) (work x) (work y) (see (lane x)) (see (lane y))) xs ys) where
  pub lanes-left : {R E : Type 0} (lanes : List L) → lanes ≡ map lane xs → (result : Result R E) (of : R → List L) → IfOk result (λ run. of run ≡ map lane ys) → IfOk result (λ run. AreSameLanes (map see lanes) (map see (of run)))
  lanes-left lanes are (Err e) of h = tt
  lanes-left lanes are (Ok run) of h =
      subst (λ us. AreSameLanes us (map see (of run))) (sym (ap (map see) are ∙ map-both lane see xs))
      (subst (AreSameLanes (map (λ w. see (lane w)) xs)) (sym (ap (map see) h ∙ map-both lane see ys))
      (same-lanes sys stimuli budget sound fit few s b t work (λ w. see (lane w)) xs all ys same))

  pub run-left : {R E : Type 0} (result : Result R E) (of : R → List L) (rests_in : R → List Rest) (done_in : R → Bool) → IfOk result (λ run. of run ≡ map lane ys) → (how : PhasesEnd) (objects : List ℕ) → objects ≡ priorities sys
      → AreReady (λ w. MayEnd (s w) (b w) (t w) (work w) (see (lane w))) ys → (how ≡ ended.Idle → AreReady (λ w. MayTurn (s w) (b w) (t w) (work w) (see (lane w))) ys)
      → (how ≡ ended.Idle → HasEnded (λ w. see (lane w)) (λ w. is_left_in (work w)) objects ys) → IfOk result (λ run. AreShown work ys (rests_in run)) → OnOk result (list_any (λ w. is_short (t w)) ys ≡ false)
      → IfOk result (λ run. done_in run ≡ true → (how ≡ ended.Idle) × (list_all (λ w. is_idle (t w)) ys ≡ true))
      → StartFirst (λ w. see (lane w)) (λ w. JobIsAlone (t w) (work w) (see (lane w))) (λ w. AreStarts (starts_of (work w)) (untold_all (see (lane w)).told))
      (λ x y. IsSameWorker (s x) (s y) (b x) (b y) (work x) (work y) (see (lane x)) (see (lane y))) xs ys → IfOk result (λ run. HasRun sys stimuli budget (done_in run) (rests_in run) (map see (of run)))
  run-left (Err e) of rests_in done_in h how objects are ends ready idle shown long quiet starts = tt
  run-left (Ok run) of rests_in done_in h how objects are ends ready idle shown long quiet starts =
      subst (HasRun sys stimuli budget (done_in run) (rests_in run)) (sym (ap (map see) h ∙ map-both lane see ys))
      (ran sys stimuli budget sound fit few s b t work (λ w. see (lane w)) xs all ys same how (done_in run) (rests_in run) objects are ends ready idle shown long quiet starts)

  pub cause-left : {R E : Type 0} (result : Result R E) (of : R → List L) (done_in : R → Bool) → IfOk result (λ run. of run ≡ map lane ys) → (how : PhasesEnd)
      → (how ≡ ended.Stopped → (list_all (λ w. is_idle (t w)) ys ≡ false) ⊎ FirstFound (λ w. see (lane w)) false xs ys)
      → AreReady (λ w. MayTurn (s w) (b w) (t w) (work w) (see (lane w)) ⊎ MayBegin (s w) (b w) (t w) (work w) (see (lane w))) ys → OnOk result (list_any (λ w. is_short (t w)) ys ≡ false)
      → IfOk result (λ run. done_in run ≡ false → (how ≡ ended.Stopped) ⊎ (list_all (λ w. is_idle (t w)) ys ≡ false)) → IfOk result (λ run. done_in run ≡ false → AnyStopped (map see (of run)))
  cause-left (Err e) of done_in h how stopped each long left = tt
  cause-left (Ok run) of done_in h how stopped each long left = λ not_done.
      subst AnyStopped (sym (ap (map see) h ∙ map-both lane see ys))
      (cause s b t work (λ w. see (lane w)) xs ys how stopped each long (left not_done))

  pub fed-left : {R E : Type 0} (result : Result R E) (of : R → List L) → IfOk result (λ run. of run ≡ map lane ys)
      → AreReady (λ w. MayTurn (s w) (b w) (t w) (work w) (see (lane w)) ⊎ MayBegin (s w) (b w) (t w) (work w) (see (lane w))) ys → OnOk result (list_any (λ w. is_short (t w)) ys ≡ false)
      → IfOk result (λ run. AllByRecursion IsFed (map see (of run)))
  fed-left (Err e) of h each long = tt
  fed-left (Ok run) of h each long = subst (AllByRecursion IsFed) (sym (ap (map see) h ∙ map-both lane see ys)) (all-fed s b t work (λ w. see (lane w)) ys long each)
