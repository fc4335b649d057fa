-- Workers before their start: they may begin, and are for the objects and sources in their order.
use Rattle.std.proofs.Common.{◌≡◌, ℕ, zero, suc, ◌+◌, ◌-◌, ◌<◌, ◌≤◌, List, [], ◌∷◌, ◌++◌, map, length, drop, get_or, refl, sym, ◌∙◌, ap, subst, arith, Some, true}
use Rattle.std.specs.Prelude.{slice_get}
use Rattle.qp_model.specs.declared.stimulus.Stim.{Stim}
use Rattle.qp_model.specs.declared.systems.System.{System}
use Rattle.qp_model.specs.declared.systems.ObjectDef.{ObjectDef}
use Rattle.qp_model.specs.Sound.{IsSound}
use Rattle.qp_model.proofs.TakenLemmas.{drop-head}
use Rattle.qp_stim.specs.Rules.{StimuliFit}
use Rattle.qp_calls.specs.LaneView.{LaneView}
use Rattle.qp_dispatch.specs.declared.objects.Turn.{Turn}
use Rattle.qp_port_phases.specs.Turns.{AreReady}
use Rattle.qp_port_phases.specs.Lanes.{AreTogether}
use Rattle.qp_port_lanes.specs.At.{IsUnstartedHome}
use Rattle.qp_port_lanes.proofs.Feeding.{fed-new}
use Rattle.qp_port_lanes.proofs.Standing.{new-stand}
use Rattle.qp_port.specs.declared.job.Job.{Job}
use Rattle.qp_port.specs.declared.job.Job.TheVariants as job
use Rattle.qp_port.specs.Jobs.{JobBegins}
use Rattle.qp_port.specs.Making.{AreAllMade, HomesMade, IsHomeMade, IsSourceMade, MadesHome, MadesNothing, IsFreshSource}
use Rattle.qp_port_lanes.specs.Workers.{IsFreshWorker, SourcesMade, IsNewOf}
use Rattle.qp_port.specs.Rows.{AreNew, AreNewLanes, AreWorkers, IsHomeJobOf, IsNothing, IsRow, IsSourceOf}
use Rattle.qp_port.specs.Workers.{MayBegin}

got : (xs : List (List Stim)) (n : ℕ) (x : List Stim) → slice_get xs n ≡ Some x → (get_or xs n [] ≡ x) × (n < length xs)
got [] n x h = absurd (cc)
got (y ∷ ys) zero x h = let same : y ≡ x = cc in (same, omega arith)
got (y ∷ ys) (suc n) x h = let more = got ys n x h in let few = more.1 in (more.0, omega (arith, few))

new-long : (sys : System) (world : List ℕ) (ds : List ObjectDef) (more : List (List Stim)) (vs : List LaneView) → AreNew sys world ds more vs → length vs ≡ length ds + length more
new-long sys world (d ∷ ds) more (v ∷ vs) h = let behind = new-long sys world ds more vs h.2 in omega (arith, behind)
new-long sys world [] (ss ∷ more) (v ∷ vs) h = let behind = new-long sys world [] more vs h.1 in omega (arith, behind)
new-long sys world [] [] [] h = refl
new-long sys world [] [] (v ∷ vs) h = absurd h
new-long sys world (d ∷ ds) more [] h = absurd h
new-long sys world [] (ss ∷ more) [] h = absurd h

-- so many lanes
pub lanes-long : (sys : System) (stimuli : List (List Stim)) (vs : List LaneView) → AreNewLanes sys stimuli vs → length vs ≡ 1 + length sys.objects + length stimuli
lanes-long sys stimuli [] h = absurd h
lanes-long sys stimuli (v ∷ vs) h = let others = new-long sys v.world sys.objects stimuli vs h.1 in omega (arith, others)

module _ (sys : System) (stimuli : List (List Stim)) (budget : ℕ) (sound : IsSound sys) (fit : StimuliFit sys stimuli) (few : budget ≤ 1000000) where
  fresh-begin : (s : System) (b : ℕ) (t : Turn) (x : Job) (v : LaneView) → IsFreshWorker sys budget s b t → JobBegins sys x v → v.told ≡ [] → v.stops ≡ [] → MayBegin s b t x v
  fresh-begin s b t x v fresh h none stops = record {
    sound = subst IsSound (sym fresh.sys_is) sound;
    few = let same = fresh.budget_is in omega (arith, same, few);
    idle = fresh.idle;
    begins = subst (λ u. JobBegins u x v) (sym fresh.sys_is) h;
    none = none;
    fed = fed-new v stops;
  }

  nothing-begins : (world : List ℕ) (x : Job) (v : LaneView) → IsNothing x → IsNewOf sys world v → JobBegins sys x v
  nothing-begins world job.Nothing v is new = record { told = new.new.told; hands = new.new.hands }
  nothing-begins world (job.Home x) v is new = absurd is
  nothing-begins world (job.Source x) v is new = absurd is

  home-begins : (world : List ℕ) (d : ObjectDef) (x : Job) (v : LaneView) → IsHomeMade sys d x → IsNewOf sys world v → v.serves d.priority ≡ true → JobBegins sys x v × IsHomeJobOf d x
  home-begins world d (job.Home x) v made new serves = (
    (
      subst (λ p. IsUnstartedHome sys p x) (sym made.me) made,
      record { of = new.of; serves = ap v.serves made.me ∙ serves; told = new.new.told; hands = new.new.hands },
    ),
    made.me,
  )
  home-begins world d job.Nothing v made new serves = absurd made
  home-begins world d (job.Source x) v made new serves = absurd made

  source-begins : (world : List ℕ) (n : ℕ) (ss : List Stim) (more : List (List Stim)) (x : Job) (v : LaneView) → IsSourceMade stimuli (n + 1) x → drop n stimuli ≡ ss ∷ more → IsNewOf sys world v → JobBegins sys x v × IsSourceOf ss x
  source-begins world n ss more (job.Source x) v made at new =
      let here = got stimuli n ss (drop-head n stimuli ss more at).0 in
      let few = here.1 in
      let place = made.source_is in
      let long = ap length made.stim in
      let before : x.source - 1 ≡ n = omega (arith, place) in (
        new-stand sys x v
            (record {
              fits = subst (StimuliFit sys) (sym made.stim) fit;
              some = omega (arith, place);
              there = omega (arith, place, few, long);
              begun = made.begun;
              settling = made.settling;
            })
            new.of new.new,
        ap (λ xs. get_or xs (x.source - 1) []) made.stim ∙ ap (λ k. get_or stimuli k []) before ∙ here.0,
      )
  source-begins world n ss more job.Nothing v made at new = absurd made
  source-begins world n ss more (job.Home x) v made at new = absurd made

  module _ {T : Type 0} (s : T → System) (b : T → ℕ) (t : T → Turn) (work : T → Job) (view : T → LaneView) (world : List ℕ) where
    abbrev Begins : T → Type 0
    Begins w = MayBegin (s w) (b w) (t w) (work w) (view w)

    abbrev HasTerms : T → Type 0
    HasTerms w = (s w ≡ sys) × (b w ≡ budget)

    abbrev IsHere : T → Type 0
    IsHere w = ((view w).world ≡ world) × ((view w).sys ≡ sys)

    -- these workers may begin
    record MayAllBegin (ds : List ObjectDef) (more : List (List Stim)) (ws : List T) : Type 0 where
      pub begin : AreReady Begins ws
      pub row : AreWorkers work ds more ws
      pub terms : AreReady HasTerms ws
      pub here : AreReady IsHere ws

    abbrev MadeHome : ObjectDef → T → Type 0
    MadeHome d w = MadesHome sys budget d (s w) (b w) (t w) (work w)

    abbrev MadeSource : ℕ → T → Type 0
    MadeSource k w = IsFreshSource sys budget stimuli k (s w) (b w) (t w) (work w)

    sources-begin : (n : ℕ) (more : List (List Stim)) (ws : List T) → drop n stimuli ≡ more → SourcesMade MadeSource (n + 1) more ws → AreNew sys world [] more (map view ws) → MayAllBegin [] more ws
    sources-begin n [] [] at made new = record { begin = tt; row = tt; terms = tt; here = tt }
    sources-begin n [] (w ∷ ws) at made new = absurd made
    sources-begin n (ss ∷ more) [] at made new = absurd made
    sources-begin n (ss ∷ more) (w ∷ ws) at made new =
        let one = source-begins world n ss more (work w) (view w) made.0.its at new.0 in
        let behind = sources-begin (n + 1) more ws (drop-head n stimuli ss more at).1 made.1 new.1 in
        record {
          begin = (fresh-begin (s w) (b w) (t w) (work w) (view w) made.0.fresh one.0 new.0.new.told new.0.new.stops, behind.begin);
          row = (one.1, behind.row);
          terms = ((made.0.fresh.sys_is, made.0.fresh.budget_is), behind.terms);
          here = ((new.0.world_is, new.0.of), behind.here);
        }

    homes-begin : (ds : List ObjectDef) (homes sources : List T) → HomesMade MadeHome ds homes → SourcesMade MadeSource 1 stimuli sources → AreNew sys world ds stimuli (map view (homes ++ sources)) → MayAllBegin ds stimuli (homes ++ sources)
    homes-begin [] [] sources made others new = sources-begin 0 stimuli sources refl others new
    homes-begin [] (w ∷ ws) sources made others new = absurd made
    homes-begin (d ∷ ds) [] sources made others new = absurd made
    homes-begin (d ∷ ds) (w ∷ ws) sources made others new =
        let one = home-begins world d (work w) (view w) made.0.its new.0 new.1 in
        let behind = homes-begin ds ws sources made.1 others new.2 in
        record {
          begin = (fresh-begin (s w) (b w) (t w) (work w) (view w) made.0.fresh one.0 new.0.new.told new.0.new.stops, behind.begin);
          row = (one.1, behind.row);
          terms = ((made.0.fresh.sys_is, made.0.fresh.budget_is), behind.terms);
          here = ((new.0.world_is, new.0.of), behind.here);
        }

    together : (v : LaneView) → v.world ≡ world → v.sys ≡ sys → (ws : List T) → AreReady IsHere ws → AreTogether view v ws
    together v at of [] h = tt
    together v at of (w ∷ ws) h = (record { world = h.0.0 ∙ sym at; sys = h.0.1 ∙ sym of }, together v at of ws h.1)

  -- all that is known of the workers of a run before their start
  pub record AreReadyAll {T : Type 0} (s : T → System) (b : T → ℕ) (t : T → Turn) (work : T → Job) (view : T → LaneView) (ws : List T) : Type 0 where
    pub first : T
    pub others : List T
    pub are : ws ≡ first ∷ others
    pub begin : AreReady (λ w. MayBegin (s w) (b w) (t w) (work w) (view w)) ws
    pub row : IsRow work sys.objects stimuli ws
    pub terms : AreReady (λ w. (s w ≡ sys) × (b w ≡ budget)) ws
    pub together_are : AreTogether view (view first) others
    pub of : (view first).sys ≡ sys

  pub all-begin : {T L : Type 0} (s : T → System) (b : T → ℕ) (t : T → Turn) (work : T → Job) (lane : T → L) (see : L → LaneView) (lanes : List L) (ws : List T)
      → AreAllMade lane (λ w. MadesNothing sys budget (s w) (b w) (t w) (work w)) (λ d w. MadesHome sys budget d (s w) (b w) (t w) (work w)) (λ k w. IsFreshSource sys budget stimuli k (s w) (b w) (t w) (work w)) sys.objects stimuli lanes ws
      → AreNewLanes sys stimuli (map see lanes) → AreReadyAll s b t work (λ w. see (lane w)) ws
  all-begin {T = T} s b t work lane see lanes ws made new =
      let all : AreNewLanes sys stimuli (see (lane made.first) ∷ map (λ w. see (lane w)) (made.homes ++ made.sources)) =
      subst (AreNewLanes sys stimuli) (ap (map see) made.lanes_are ∙ both ws ∙ ap (map (λ w. see (lane w))) made.workers_are) new in
      let world = (see (lane made.first)).world in
      let one = nothing-begins world (work made.first) (see (lane made.first)) made.nothing.its all.0 in
      let behind = homes-begin s b t work (λ w. see (lane w)) world sys.objects made.homes made.sources made.homes_made made.sources_made all.1 in
      record {
        first = made.first;
        others = made.homes ++ made.sources;
        are = made.workers_are;
        begin = rw made.workers_are (fresh-begin (s made.first) (b made.first) (t made.first) (work made.first) (see (lane made.first)) made.nothing.fresh one all.0.new.told all.0.new.stops, behind.begin);
        row = rw made.workers_are (made.nothing.its, behind.row);
        terms = rw made.workers_are ((made.nothing.fresh.sys_is, made.nothing.fresh.budget_is), behind.terms);
        together_are = together s b t work (λ w. see (lane w)) world (see (lane made.first)) refl all.0.of (made.homes ++ made.sources) behind.here;
        of = all.0.of;
      }
    where
      both : (us : List T) → map see (map lane us) ≡ map (λ w. see (lane w)) us
      both [] = refl
      both (u ∷ us) = ap (λ vs. see (lane u) ∷ vs) (both us)
