-- Workers before their start: they may begin, and are for the sources in their order.
use Rattle.std.proofs.Common.{◌≡◌, ℕ, zero, suc, ◌+◌, ◌-◌, ◌<◌, ◌≤◌, Bool, true, false, List, [], ◌∷◌, map, length, drop, get_or, refl, sym, ◌∙◌, ap, subst, arith, Some}
use Rattle.std.specs.Prelude.{slice_get}
use Rattle.qp_model.specs.declared.stimulus.Stim.{Stim}
use Rattle.qp_model.specs.declared.systems.System.{System}
use Rattle.qp_model.specs.declared.systems.ObjectDef.{ObjectDef}
use Rattle.qp_model.specs.Sites.{object_at}
use Rattle.qp_model.specs.Sound.{IsSound}
use Rattle.qp_model.proofs.TakenLemmas.{drop-head}
use Rattle.qp_stim.specs.Rules.{StimuliFit}
use Rattle.qp_calls.specs.LaneView.{LaneView}
use Rattle.qp_dispatch.specs.declared.objects.Turn.{Turn}
use Rattle.qp_port_phases.specs.Turns.{AreReady}
use Rattle.qp_port_phases.specs.Lanes.{AreTogether}
use Rattle.qp_port_lanes.proofs.Feeding.{fed-new}
use Rattle.qp_port_lanes.proofs.Standing.{new-stand}
use Rattle.qp_port_qk.specs.declared.job.QkJob.{QkJob}
use Rattle.qp_port_qk.specs.declared.job.QkJob.TheVariants as job
use Rattle.qp_port_qk.specs.Jobs.{QkJobBegins, QkJobRests, QkJobStands, qk_starts_of}
use Rattle.qp_port_qk.specs.Making.{AreAllQkMade, IsKernelMade, IsQkSourceMade, MadesKernel, IsFreshQkSource}
use Rattle.qp_port_lanes.specs.Workers.{IsFreshWorker, SourcesMade, IsNewOf}
use Rattle.qp_port_qk.specs.Rows.{AreNewSources, AreNewQkLanes, AreSources, IsKernel, IsQkRow, IsQkSourceOf}
use Rattle.qp_port_qk.specs.Workers.{FirstBegins, QkMayBegin, QkMayTurn, IsBlank, OthersAre}

got : (xs : List (List Stim)) (n : ℕ) (x : List Stim) → slice_get xs n ≡ Some x → (get_or xs n [] ≡ x) × (n < length xs)
got [] n x h = absurd (cc)
got (y ∷ ys) zero x h = let same : y ≡ x = cc in (same, omega arith)
got (y ∷ ys) (suc n) x h = let more = got ys n x h in let few = more.1 in (more.0, omega (arith, few))

module _ (acts : Bool) (alone : acts ≡ false) (sys : System) (stimuli : List (List Stim)) (budget : ℕ) (sound : IsSound sys) (fit : StimuliFit sys stimuli) (few : budget ≤ 1000000) where
  fresh-begin : (s : System) (b : ℕ) (t : Turn) (x : QkJob) (v : LaneView) → IsFreshWorker sys budget s b t → QkJobBegins sys x v → v.told ≡ [] → v.stops ≡ [] → QkMayBegin acts s b t x v
  fresh-begin s b t x v fresh h none stops = record {
    alone = alone;
    sound = subst IsSound (sym fresh.sys_is) sound;
    few = let same = fresh.budget_is in omega (arith, same, few);
    idle = fresh.idle;
    begins = subst (λ u. QkJobBegins u x v) (sym fresh.sys_is) h;
    none = none;
    fed = fed-new v stops;
  }

  fresh-turn : (s : System) (b : ℕ) (t : Turn) (x : QkJob) (v : LaneView) → IsFreshWorker sys budget s b t → QkJobRests sys budget x v → v.stops ≡ [] → QkMayTurn acts s b t x v
  fresh-turn s b t x v fresh h none = record {
    alone = alone;
    sound = subst IsSound (sym fresh.sys_is) sound;
    few = let same = fresh.budget_is in omega (arith, same, few);
    stands = subst (λ u. QkJobStands u b t x v) (sym fresh.sys_is) (subst (λ n. QkJobStands sys n t x v) (sym fresh.budget_is) (subst (λ a. QkJobStands sys budget a x v) (sym fresh.idle) h));
    fed = λ long. fed-new v none;
  }

  kernel-begins : (world : List ℕ) (x : QkJob) (v : LaneView) → IsKernelMade sys x → IsNewOf sys world v → ((d : ObjectDef) → object_at sys d.priority ≡ Some d → v.serves d.priority ≡ true) → v.plan ≡ [] → QkJobBegins sys x v × IsKernel x
  kernel-begins world (job.Kernel xs k) v made new serves plan = (
    record { made = made.0; fresh = record { new = new.new; of = new.of; serves = serves }; plan = plan; looks = made.1; stack = made.2; steps = made.3 },
    tt,
  )
  kernel-begins world (job.Source x) v made new serves plan = absurd made

  source-begins : (world : List ℕ) (n : ℕ) (ss : List Stim) (more : List (List Stim)) (x : QkJob) (v : LaneView) → IsQkSourceMade stimuli (n + 1) x → drop n stimuli ≡ ss ∷ more → IsNewOf sys world v → QkJobRests sys budget x v × IsQkSourceOf ss x
  source-begins world n ss more (job.Source x) v made at new =
      let here = got stimuli n ss (drop-head n stimuli ss more at).0 in
      let few = here.1 in
      let place = made.source_is in
      let long = ap length made.stim in
      let before : x.source - 1 ≡ n = omega (arith, place) in (
        new-stand sys x v
            (record {
              fits = subst (StimuliFit sys) (sym made.stim) fit;
              some = omega (arith, place);
              there = omega (arith, place, few, long);
              begun = made.begun;
              settling = made.settling;
            })
            new.of new.new,
        ap (λ xs. get_or xs (x.source - 1) []) made.stim ∙ ap (λ k. get_or stimuli k []) before ∙ here.0,
      )
  source-begins world n ss more (job.Kernel xs k) v made at new = absurd made

  module _ {T : Type 0} (s : T → System) (b : T → ℕ) (t : T → Turn) (work : T → QkJob) (view : T → LaneView) (world : List ℕ) where
    abbrev Turns : T → Type 0
    Turns w = QkMayTurn acts (s w) (b w) (t w) (work w) (view w)

    abbrev HasTerms : T → Type 0
    HasTerms w = (s w ≡ sys) × (b w ≡ budget)

    abbrev IsHere : T → Type 0
    IsHere w = ((view w).world ≡ world) × ((view w).sys ≡ sys)

    -- these workers may take turns
    record MayAllTurn (more : List (List Stim)) (ws : List T) : Type 0 where
      pub ready : AreReady Turns ws
      pub row : AreSources work more ws
      pub terms : AreReady HasTerms ws
      pub here : AreReady IsHere ws
      pub blank : AreReady (λ w. IsBlank (s w) (work w) (view w)) ws

    abbrev MadeSource : ℕ → T → Type 0
    MadeSource k w = IsFreshQkSource sys budget stimuli k (s w) (b w) (t w) (work w)

    no-starts : (u : System) (ss : List Stim) (x : QkJob) → IsQkSourceOf ss x → qk_starts_of u x ≡ 0
    no-starts u ss (job.Source x) is = refl
    no-starts u ss (job.Kernel xs k) is = absurd is

    sources-begin : (n : ℕ) (more : List (List Stim)) (ws : List T) → drop n stimuli ≡ more → SourcesMade MadeSource (n + 1) more ws → AreNewSources sys world more (map view ws) → MayAllTurn more ws
    sources-begin n [] [] at made new = record { ready = tt; row = tt; terms = tt; here = tt; blank = tt }
    sources-begin n [] (w ∷ ws) at made new = absurd made
    sources-begin n (ss ∷ more) [] at made new = absurd made
    sources-begin n (ss ∷ more) (w ∷ ws) at made new =
        let one = source-begins world n ss more (work w) (view w) made.0.its at new.0 in
        let behind = sources-begin (n + 1) more ws (drop-head n stimuli ss more at).1 made.1 new.1 in
        record {
          ready = (fresh-turn (s w) (b w) (t w) (work w) (view w) made.0.fresh one.0 new.0.new.stops, behind.ready);
          row = (one.1, behind.row);
          terms = ((made.0.fresh.sys_is, made.0.fresh.budget_is), behind.terms);
          here = ((new.0.world_is, new.0.of), behind.here);
          blank = (record { starts = no-starts (s w) ss (work w) one.1; none = new.0.new.told }, behind.blank);
        }

    together : (v : LaneView) → v.world ≡ world → v.sys ≡ sys → (ws : List T) → AreReady IsHere ws → AreTogether view v ws
    together v at of [] h = tt
    together v at of (w ∷ ws) h = (record { world = h.0.0 ∙ sym at; sys = h.0.1 ∙ sym of }, together v at of ws h.1)

  -- all that is known of the workers of a run before their start
  pub record AreReadyAll {T : Type 0} (s : T → System) (b : T → ℕ) (t : T → Turn) (work : T → QkJob) (view : T → LaneView) (ws : List T) : Type 0 where
    pub first : T
    pub others : List T
    pub are : ws ≡ first ∷ others
    pub begin : FirstBegins (λ w. QkMayBegin acts (s w) (b w) (t w) (work w) (view w)) (λ w. QkMayTurn acts (s w) (b w) (t w) (work w) (view w)) ws
    pub blank : OthersAre (λ w. IsBlank (s w) (work w) (view w)) ws
    pub row : IsQkRow work stimuli ws
    pub terms : AreReady (λ w. (s w ≡ sys) × (b w ≡ budget)) ws
    pub together_are : AreTogether view (view first) others
    pub of : (view first).sys ≡ sys

  pub all-begin : {T L : Type 0} (s : T → System) (b : T → ℕ) (t : T → Turn) (work : T → QkJob) (lane : T → L) (see : L → LaneView) (lanes : List L) (ws : List T)
      → AreAllQkMade lane (λ w. MadesKernel sys budget (s w) (b w) (t w) (work w)) (λ k w. IsFreshQkSource sys budget stimuli k (s w) (b w) (t w) (work w)) stimuli lanes ws
      → AreNewQkLanes sys stimuli (map see lanes) → AreReadyAll s b t work (λ w. see (lane w)) ws
  all-begin {T = T} s b t work lane see lanes ws made new =
      let all : AreNewQkLanes sys stimuli (see (lane made.first) ∷ map (λ w. see (lane w)) made.sources) =
      subst (AreNewQkLanes sys stimuli) (ap (map see) made.lanes_are ∙ both ws ∙ ap (map (λ w. see (lane w))) made.workers_are) new in
      let world = (see (lane made.first)).world in
      let one = kernel-begins world (work made.first) (see (lane made.first)) made.kernel.its all.0 all.1 all.2 in
      let behind = sources-begin s b t work (λ w. see (lane w)) world 0 stimuli made.sources refl made.sources_made all.3 in
      record {
        first = made.first;
        others = made.sources;
        are = made.workers_are;
        begin = rw made.workers_are (fresh-begin (s made.first) (b made.first) (t made.first) (work made.first) (see (lane made.first)) made.kernel.fresh one.0 all.0.new.told all.0.new.stops, behind.ready);
        blank = rw made.workers_are behind.blank;
        row = rw made.workers_are (one.1, behind.row);
        terms = rw made.workers_are ((made.kernel.fresh.sys_is, made.kernel.fresh.budget_is), behind.terms);
        together_are = together s b t work (λ w. see (lane w)) world (see (lane made.first)) refl all.0.of made.sources behind.here;
        of = all.0.of;
      }
    where
      both : (us : List T) → map see (map lane us) ≡ map (λ w. see (lane w)) us
      both [] = refl
      both (u ∷ us) = ap (λ vs. see (lane u) ∷ vs) (both us)

-- as many lanes as workers
pub new-many : (sys : System) (stimuli : List (List Stim)) (vs : List LaneView) → AreNewQkLanes sys stimuli vs → length vs ≡ 1 + length stimuli
new-many sys stimuli [] h = absurd h
new-many sys stimuli (v ∷ vs) h = let rest = many stimuli vs h.3 in omega (arith, rest)
  where
    many : (more : List (List Stim)) (us : List LaneView) → AreNewSources sys v.world more us → length us ≡ length more
    many [] [] h = refl
    many (ss ∷ more) (u ∷ us) h = let rest = many more us h.1 in omega (arith, rest)
    many [] (u ∷ us) h = absurd h
    many (ss ∷ more) [] h = absurd h
