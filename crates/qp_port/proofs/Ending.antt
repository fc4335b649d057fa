-- From workers whose run has ended to what their lanes are.
use Rattle.std.proofs.Common.{◌≡◌, ℕ, zero, suc, ◌<◌, ◌≤◌, ◌==◌, Bool, true, false, cond, List, [], ◌∷◌, ◌++◌, map, refl, sym, ◌∙◌, ap, subst, inl, inr, arith, append-nil, append_assoc, Some, None, Option}
use Rattle.std.specs.Prelude.{pos, IsTrue}
use Rattle.std.specs.List.{AllByRecursion, find, list_any}
use Rattle.std.specs.Option.{is_some}
use Rattle.std.proofs.lemmas.Bool.Decides.{nat_tests}
use Rattle.qp_chart.specs.declared.checked.Chart.{Chart}
use Rattle.qp_model.specs.declared.stimulus.Stim.{Stim}
use Rattle.qp_model.specs.declared.systems.System.{System}
use Rattle.qp_model.specs.declared.systems.ObjectDef.{ObjectDef}
use Rattle.qp_model.specs.declared.words.Word.{Word}
use Rattle.qp_model.specs.declared.words.Word.TheVariants as word
use Rattle.qp_model.specs.Acts.{Config}
use Rattle.qp_model.specs.Course.{actor, chart_at, first_config}
use Rattle.qp_model.specs.Ends.{may_cut, quiet}
use Rattle.qp_model.specs.Kernels.{port}
use Rattle.qp_model.specs.Laws.{Ascend}
use Rattle.qp_model.specs.OutputSummary.{CourseLeaves}
use Rattle.qp_model.specs.Sites.{object_at}
use Rattle.qp_model.specs.Sound.{IsSound}
use Rattle.qp_model.specs.Sources.{priorities}
use Rattle.qp_model.specs.WordLaw.{is_object}
use Rattle.qp_model.proofs.AbleLemmas.{some-same}
use Rattle.qp_model.proofs.ObjectLemmas.{found-passes}
use Rattle.qp_calls.specs.Counting.{count_of}
use Rattle.qp_calls.specs.Deferring.{tokens_in}
use Rattle.qp_calls.specs.Clauses.{entry_of}
use Rattle.qp_calls.specs.LaneView.{LaneView}
use Rattle.qp_calls.specs.Tokens.{Token}
use Rattle.qp_dispatch.specs.Lasts.{config_of}
use Rattle.qp_dispatch.specs.Resume.{held_in}
use Rattle.qp_kernel.specs.Stages as stage
use Rattle.qp_kernel.specs.Stages.{ComesTo}
use Rattle.qp_kernel.specs.ZeroEnds.{own_told}
use Rattle.qp_kernel_end.specs.declared.rest.Rest.{Rest}
use Rattle.qp_kernel_end.specs.Rests.{IsRestIn, IsRestOf}
use Rattle.qp_port_phases.specs.Turns.{AreReady}
use Rattle.qp_port_phases.specs.Quiet.{AllBelow, AreEmpty, HasEnded, IsEmpty}
use Rattle.qp_port_law.specs.QuietLaws.{IsLastLook}
use Rattle.qp_port_law.specs.Sealed.{IsLaneAt}
use Rattle.qp_port_law.specs.Homes.{HomeEnds}
use Rattle.qp_port_law.specs.HomesRest.{RestsWith}
use Rattle.qp_port_law.specs.SourcesLeft.{SourceLeaves}
use Rattle.qp_model.proofs.MeaningLemmas.{none_below}
use Rattle.qp_model.proofs.HomeLemmas.{AreBelow, below-next}
use Rattle.qp_port_lanes.specs.declared.home.Home.{Home}
use Rattle.qp_port_lanes.specs.At.{IsHome}
use Rattle.qp_port_lanes.proofs.Resting.{home-of}
use Rattle.qp_port_law.specs.Lanes.{AreAtRest, HaveNone, HomesAre, SourcesAre}
use Rattle.qp_port_law.specs.Rests.{AreTold}
use Rattle.qp_port_law.specs.StartsFirst.{AreApart, IsApart}
use Rattle.qp_port_law.proofs.Apart.{AreAllApart}
use Rattle.qp_port_lanes.proofs.Standing.{done-end}
use Rattle.qp_port.specs.declared.job.Job.{Job}
use Rattle.qp_port.specs.declared.job.Job.TheVariants as job
use Rattle.qp_port.specs.Ends.{HasRun}
use Rattle.qp_port.specs.Jobs.{JobRests, JobStops, is_left_in, starts_of}
use Rattle.qp_port.specs.Resting.{AreShown, IsShownBy, IsShownIn}
use Rattle.qp_port.specs.Rows.{AreWorkers, IsHomeJobOf, IsNothing, IsRow, IsSourceOf}
use Rattle.qp_model_order.specs.SourceRun.{untold_all}
use Rattle.qp_port.proofs.QuietHomes.{quiet-home}
use Rattle.qp_port.proofs.Rows.{ready-none}
use Rattle.qp_port.proofs.Standing.{priority-is}
use Rattle.qp_kernel_turns.proofs.SoundObjects.{found-self}

-- each object is the one of its priority
abbrev pub AreFound : System → List ObjectDef → Type 0
AreFound sys ds = AllByRecursion (λ d. object_at sys d.priority ≡ Some d) ds

module _ (sys : System) where
  found-from : (front ds : List ObjectDef) → front ++ ds ≡ sys.objects → AreBelow front ds → Ascend ds → AreFound sys ds
  unfolding object_at
  found-from front [] is below rise = tt
  found-from front (d ∷ ds) is below rise = (
    ap (find (λ x. x.priority == d.priority)) (sym is) ∙ found-self front d ds below.0,
    found-from (front ++ d ∷ []) ds (append_assoc front (d ∷ []) ds ∙ is) (below-next front d ds below.1 rise.1) rise.2,
  )

  pub all-found : IsSound sys → AreFound sys sys.objects
  all-found sound = found-from [] sys.objects refl (none_below sys.objects) sound.ascend

-- One object, by its lane.

module _ (sys : System) (budget : ℕ) (d : ObjectDef) (found : object_at sys d.priority ≡ Some d) (v : LaneView) where
  home-early : (end : ℕ) → may_cut end ≡ true → (x : Job) → IsHomeJobOf d x → JobStops sys budget x v → HomeEnds sys d budget end v.told
  home-early end early (job.Home x) is h = h.ends d (ap (object_at sys) is ∙ found) end early
  home-early end early job.Nothing is h = absurd is
  home-early end early (job.Source x) is h = absurd is

  module _ (sound : IsSound sys) (x : Home) (is : x.me ≡ d.priority) (h : IsHome sys budget x v) where
    is-d : h.d ≡ d
    is-d = some-same (sym h.at.found ∙ ap (object_at sys) (sym h.at.me ∙ is) ∙ found)

    home-quiet : HomeEnds sys d budget quiet v.told
    home-quiet =
        subst (λ (e : ObjectDef). HomeEnds sys e budget quiet v.told) is-d
        (quiet-home sys h.d h.chart budget quiet (v.own h.d.priority) x.looked v.told h.es h.points h.c (home-of sys sound h.d h.chart h.at.found h.at.its) refl h.records)

    rests-with : (e : ObjectDef) → h.d ≡ e → RestsWith sys e h.c v.told
    rests-with e same =
        subst (λ (f : ObjectDef). RestsWith sys f h.c v.told) same
        (record {
          ps = h.records.1.ps;
          bare_is = h.records.1.bare_is;
          es = h.es;
          comes = λ chart its.
              let here : h.chart ≡ chart = some-same (sym h.at.its ∙ its) in
              subst (λ i. ComesTo sys (actor h.d i) (first_config h.d) h.es h.records.1.ps (stage.Resting h.c)) here h.records.1.comes;
        })

    rests-hands : (t : Token) → count_of t v.hands ≡ count_of t (tokens_in h.c.kept)
    rests-hands t =
        let items = x.object.lasting.list.entries.items in
        let held : held_in x.object.lasting x.object.stage ≡ items = ap (held_in x.object.lasting) h.rest.between ∙ append-nil items in
        h.at.only t ∙ ap (λ es. count_of t (tokens_in (map entry_of es))) held ∙ ap (λ c. count_of t (tokens_in c.kept)) (sym h.rest.config)

  -- what it shows
  shown-here : (x : Job) → IsHomeJobOf d x → JobStops sys budget x v → (r : Rest) → IsShownBy x r → IsRestOf sys d (own_told d.priority v.told) r
  unfolding IsRestOf CourseLeaves
  shown-here (job.Home x) is h r shown = λ at chart its. (
    config_of x.object.lasting,
    h.rests d chart (ap (object_at sys) is ∙ found) its shown.started shown.calm,
    record { leaf = shown.leaf; vars = shown.vars },
  )
  shown-here job.Nothing is h r shown = absurd is
  shown-here (job.Source x) is h r shown = absurd is

source-early : (sys : System) (budget end : ℕ) (ss : List Stim) (v : LaneView) → may_cut end ≡ true → (x : Job) → IsSourceOf ss x → JobStops sys budget x v → SourceLeaves sys port end ss v.told
source-early sys budget end ss v early (job.Source x) is h = subst (λ xs. SourceLeaves sys port end xs v.told) is (h port end refl early)
source-early sys budget end ss v early job.Nothing is h = absurd is
source-early sys budget end ss v early (job.Home x) is h = absurd is

source-quiet : (sys : System) (budget : ℕ) (ss : List Stim) (v : LaneView) (x : Job) → IsSourceOf ss x → is_left_in x ≡ false → JobRests sys budget x v → SourceLeaves sys port quiet ss v.told × (v.hands ≡ [])
source-quiet sys budget ss v (job.Source x) is none h = (subst (λ xs. SourceLeaves sys port quiet xs v.told) is (done-end sys x v port quiet h refl none), h.at.hands)
source-quiet sys budget ss v job.Nothing is none h = absurd is
source-quiet sys budget ss v (job.Home x) is none h = absurd is

nothing-empty : (sys : System) (budget : ℕ) (v : LaneView) (x : Job) → IsNothing x → JobStops sys budget x v → (v.told ≡ []) × (v.hands ≡ [])
nothing-empty sys budget v job.Nothing is h = (h.told, h.hands)
nothing-empty sys budget v (job.Home x) is h = absurd is
nothing-empty sys budget v (job.Source x) is h = absurd is

-- Rows.

module _ {T : Type 0} (work : T → Job) (view : T → LaneView) where
  -- the lanes of the objects, and those behind them
  abbrev pub homes_in : List ObjectDef → List T → List LaneView
  homes_in [] ws = []
  homes_in (d ∷ ds) [] = []
  homes_in (d ∷ ds) (w ∷ ws) = view w ∷ homes_in ds ws

  abbrev pub sources_in : List ObjectDef → List T → List LaneView
  sources_in [] ws = map view ws
  sources_in (d ∷ ds) [] = []
  sources_in (d ∷ ds) (w ∷ ws) = sources_in ds ws

  lanes-are : (ds : List ObjectDef) (ws : List T) → map view ws ≡ homes_in ds ws ++ sources_in ds ws
  lanes-are [] ws = refl
  lanes-are (d ∷ ds) [] = refl
  lanes-are (d ∷ ds) (w ∷ ws) = ap (λ vs. view w ∷ vs) (lanes-are ds ws)

  module _ (sys : System) (budget : ℕ) where
    abbrev Stops : T → Type 0
    Stops w = JobStops sys budget (work w) (view w)

    abbrev Rests : T → Type 0
    Rests w = JobRests sys budget (work w) (view w)

    abbrev Nothing_left : T → Type 0
    Nothing_left w = is_left_in (work w) ≡ false

    homes-early : (end : ℕ) → may_cut end ≡ true → (ds : List ObjectDef) (more : List (List Stim)) (ws : List T) → AreFound sys ds → AreWorkers work ds more ws → AreReady Stops ws → HomesAre sys budget end ds (homes_in ds ws)
    homes-early end early [] more ws found row h = tt
    homes-early end early (d ∷ ds) more [] found row h = absurd row
    homes-early end early (d ∷ ds) more (w ∷ ws) found row h = (home-early sys budget d found.0 (view w) end early (work w) row.0 h.0, homes-early end early ds more ws found.1 row.1 h.1)

    sources-early : (end : ℕ) → may_cut end ≡ true → (ds : List ObjectDef) (more : List (List Stim)) (ws : List T) → AreWorkers work ds more ws → AreReady Stops ws → SourcesAre sys port end more (sources_in ds ws)
    sources-early end early [] [] [] row h = tt
    sources-early end early [] [] (w ∷ ws) row h = absurd row
    sources-early end early [] (ss ∷ more) [] row h = absurd row
    sources-early end early [] (ss ∷ more) (w ∷ ws) row h = (source-early sys budget end ss (view w) early (work w) row.0 h.0, sources-early end early [] more ws row.1 h.1)
    sources-early end early (d ∷ ds) more [] row h = absurd row
    sources-early end early (d ∷ ds) more (w ∷ ws) row h = sources-early end early ds more ws row.1 h.1

    sources-quiet : (ds : List ObjectDef) (more : List (List Stim)) (ws : List T) → AreWorkers work ds more ws → AreReady Rests ws → AreReady Nothing_left ws
        → SourcesAre sys port quiet more (sources_in ds ws) × HaveNone (sources_in ds ws)
    sources-quiet [] [] [] row h none = (tt, tt)
    sources-quiet [] [] (w ∷ ws) row h none = absurd row
    sources-quiet [] (ss ∷ more) [] row h none = absurd row
    sources-quiet [] (ss ∷ more) (w ∷ ws) row h none =
        let here = source-quiet sys budget ss (view w) (work w) row.0 none.0 h.0 in
        let behind = sources-quiet [] more ws row.1 h.1 none.1 in
        ((here.0, behind.0), (here.1, behind.1))
    sources-quiet (d ∷ ds) more [] row h none = absurd row
    sources-quiet (d ∷ ds) more (w ∷ ws) row h none = sources-quiet ds more ws row.1 h.1 none.1

    -- an object more rests so
    at_rest-other : (keeps : ℕ → Config) (d : ObjectDef) (c : Config) (ds : List ObjectDef) (vs : List LaneView) → AllByRecursion (λ x. d.priority < x.priority) ds → AreAtRest sys keeps ds vs
        → AreAtRest sys (λ p. cond (p == d.priority) c (keeps p)) ds vs
    at_rest-other keeps d c [] [] lt h = tt
    at_rest-other keeps d c [] (v ∷ vs) lt h = absurd h
    at_rest-other keeps d c (x ∷ ds) [] lt h = absurd h
    at_rest-other keeps d c (x ∷ ds) (v ∷ vs) lt h =
        let above : d.priority < x.priority = lt.0 in
        let other : (x.priority == d.priority) ≡ false = grind (arith, nat_tests) in
        let same : keeps x.priority ≡ cond (x.priority == d.priority) c (keeps x.priority) = sym (ap (λ b. cond b c (keeps x.priority)) other) in (
          subst (λ k. RestsWith sys x k v.told) same h.0,
          subst (λ (k : Config). (t : Token) → count_of t v.hands ≡ count_of t (tokens_in k.kept)) same h.1,
          at_rest-other keeps d c ds vs lt.1 h.2,
        )

    homes-quiet : IsSound sys → (ds : List ObjectDef) (more : List (List Stim)) (ws : List T) → AreFound sys ds → Ascend ds → AreWorkers work ds more ws → AreReady Rests ws
        → (keeps : ℕ → Config) × HomesAre sys budget quiet ds (homes_in ds ws) × AreAtRest sys keeps ds (homes_in ds ws)
    homes-quiet sound [] more ws found rise row h = (λ p. record { leaf = 0; vars = []; ok = pos 0; kept = []; former = 0 }, tt, tt)
    homes-quiet sound (d ∷ ds) more [] found rise row h = absurd row
    homes-quiet sound (d ∷ ds) more (w ∷ ws) found rise row h = by (homes-quiet sound ds more ws found.1 rise.2 row.1 h.1) (work w) row.0 h.0
      where
        by : (keeps : ℕ → Config) × HomesAre sys budget quiet ds (homes_in ds ws) × AreAtRest sys keeps ds (homes_in ds ws) → (x : Job) → IsHomeJobOf d x → JobRests sys budget x (view w)
            → (keeps : ℕ → Config) × HomesAre sys budget quiet (d ∷ ds) (view w ∷ homes_in ds ws) × AreAtRest sys keeps (d ∷ ds) (view w ∷ homes_in ds ws)
        by behind (job.Home x) is here =
            let self : (d.priority == d.priority) ≡ true = grind (arith, nat_tests) in
            let same : here.c ≡ cond (d.priority == d.priority) here.c (behind.0 d.priority) = sym (ap (λ b. cond b here.c (behind.0 d.priority)) self) in (
              λ p. cond (p == d.priority) here.c (behind.0 p),
              (home-quiet sys budget d found.0 (view w) sound x is here, behind.1),
              (
                subst (λ k. RestsWith sys d k (view w).told) same (rests-with sys budget d found.0 (view w) sound x is here d (is-d sys budget d found.0 (view w) sound x is here)),
                subst (λ (k : Config). (t : Token) → count_of t (view w).hands ≡ count_of t (tokens_in k.kept)) same (rests-hands sys budget d found.0 (view w) sound x is here),
                at_rest-other behind.0 d here.c ds (homes_in ds ws) rise.1 behind.2,
              ),
            )
        by behind job.Nothing is here = absurd is
        by behind (job.Source x) is here = absurd is

    -- Where they show that they rest.

    shown-by : (d : ObjectDef) (x : Job) (r : Rest) → IsHomeJobOf d x → IsShownBy x r → r.priority ≡ d.priority
    shown-by d (job.Home x) r is shown = shown.priority ∙ is
    shown-by d job.Nothing r is shown = absurd is
    shown-by d (job.Source x) r is shown = absurd is

    none-shown : (ss : List Stim) (x : Job) (r : Rest) → IsSourceOf ss x → IsShownBy x r → ⊥
    none-shown ss (job.Source x) r is shown = shown
    none-shown ss job.Nothing r is shown = absurd is
    none-shown ss (job.Home x) r is shown = absurd is

    -- those behind are of higher priorities
    shown-above : (n : ℕ) (ds : List ObjectDef) (more : List (List Stim)) (ws : List T) → AllByRecursion (λ x. n < x.priority) ds → AreWorkers work ds more ws → (r : Rest) → IsShownIn work ws r → n < r.priority
    shown-above n [] [] [] lt row r shown = absurd shown
    shown-above n [] [] (w ∷ ws) lt row r shown = absurd row
    shown-above n [] (ss ∷ more) [] lt row r shown = absurd shown
    shown-above n [] (ss ∷ more) (w ∷ ws) lt row r (inl here) = absurd (none-shown ss (work w) r row.0 here)
    shown-above n [] (ss ∷ more) (w ∷ ws) lt row r (inr behind) = shown-above n [] more ws tt row.1 r behind
    shown-above n (d ∷ ds) more [] lt row r shown = absurd shown
    shown-above n (d ∷ ds) more (w ∷ ws) lt row r (inl here) = let is = shown-by d (work w) r row.0 here in let above : n < d.priority = lt.0 in omega (arith, is, above)
    shown-above n (d ∷ ds) more (w ∷ ws) lt row r (inr behind) = shown-above n ds more ws lt.1 row.1 r behind

    -- a rest above n is shown by one of these
    abbrev ShownAbove : ℕ → List T → List Rest → Type 0
    ShownAbove n ws rests = AllByRecursion (λ (r : Rest). n < r.priority → IsShownIn work ws r) rests

    above-next : (n : ℕ) (d : ObjectDef) (w : T) (ws : List T) (rests : List Rest) → n < d.priority → IsHomeJobOf d (work w) → ShownAbove n (w ∷ ws) rests → ShownAbove d.priority ws rests
    above-next n d w ws [] lt is h = tt
    above-next n d w ws (r ∷ rests) lt is h = (λ above. one above (h.0 (omega (arith, lt, above))), above-next n d w ws rests lt is h.1)
      where
        one : d.priority < r.priority → IsShownIn work (w ∷ ws) r → IsShownIn work ws r
        one above (inl here) = let same = shown-by d (work w) r is here in absurd (omega (arith, above, same))
        one above (inr behind) = behind

    told-here : (n : ℕ) (d : ObjectDef) (ds : List ObjectDef) (more : List (List Stim)) (w : T) (ws : List T) (rests : List Rest) → object_at sys d.priority ≡ Some d → n < d.priority → AllByRecursion (λ x. d.priority < x.priority) ds
        → IsHomeJobOf d (work w) → AreWorkers work ds more ws → Stops w → ShownAbove n (w ∷ ws) rests → AllByRecursion (IsRestOf sys d (own_told d.priority (view w).told)) rests
    unfolding IsRestOf CourseLeaves
    told-here n d ds more w ws [] found lt rise is row stops h = tt
    told-here n d ds more w ws (r ∷ rests) found lt rise is row stops h = (one, told-here n d ds more w ws rests found lt rise is row stops h.1)
      where
        one : IsRestOf sys d (own_told d.priority (view w).told) r
        one = λ at. by at (h.0 (omega (arith, lt, at)))
          where
            by : r.priority ≡ d.priority → IsShownIn work (w ∷ ws) r → (chart : Chart) → chart_at sys d.chart ≡ Some chart → (c : Config) × CourseLeaves sys d chart (own_told d.priority (view w).told) c × IsRestIn c r
            by at (inl here) = shown-here sys budget d found (view w) (work w) is stops r here at
            by at (inr behind) = let above = shown-above d.priority ds more ws rise row r behind in absurd (omega (arith, above, at))

    told-from : (n : ℕ) (ds : List ObjectDef) (more : List (List Stim)) (ws : List T) (rests : List Rest) → AreFound sys ds → AllByRecursion (λ x. n < x.priority) ds → Ascend ds → AreWorkers work ds more ws → AreReady Stops ws
        → ShownAbove n ws rests → AreTold sys rests ds (homes_in ds ws)
    told-from n [] more ws rests found lt rise row h shown = tt
    told-from n (d ∷ ds) more [] rests found lt rise row h shown = absurd row
    told-from n (d ∷ ds) more (w ∷ ws) rests found lt rise row h shown = (
      told-here n d ds more w ws rests found.0 lt.0 rise.1 row.0 row.1 h.0 shown,
      told-from d.priority ds more ws rests found.1 rise.1 rise.2 row.1 h.1 (above-next n d w ws rests lt.0 row.0 shown),
    )

    above-none : (ds : List ObjectDef) → Ascend ds → AllByRecursion (λ (x : ObjectDef). 0 < x.priority) ds
    above-none [] h = tt
    above-none (d ∷ ds) h = (h.0, above-none ds h.2)

    shown-none : (w : T) (ws : List T) (rests : List Rest) → IsNothing (work w) → AreShown work (w ∷ ws) rests → ShownAbove 0 ws rests
    shown-none w ws [] is h = tt
    shown-none w ws (r ∷ rests) is h = (λ above. one h.0, shown-none w ws rests is h.1)
      where
        by : (x : Job) → IsNothing x → IsShownBy x r → ⊥
        by job.Nothing is shown = shown
        by (job.Home x) is shown = absurd is
        by (job.Source x) is shown = absurd is

        one : IsShownIn work (w ∷ ws) r → IsShownIn work ws r
        one (inl here) = absurd (by (work w) is here)
        one (inr behind) = behind

    -- Their starts.

    homes-apart : (floor : Word → ℕ) (ds : List ObjectDef) (more : List (List Stim)) (ws : List T) → AreWorkers work ds more ws → AreReady (λ w. IsApart floor (starts_of (work w)) (untold_all (view w).told)) ws → AreApart floor 1 (homes_in ds ws)
    homes-apart floor [] more ws row h = tt
    homes-apart floor (d ∷ ds) more [] row h = absurd row
    homes-apart floor (d ∷ ds) more (w ∷ ws) row h = (by (work w) row.0 h.0, homes-apart floor ds more ws row.1 h.1)
      where
        by : (x : Job) → IsHomeJobOf d x → IsApart floor (starts_of x) (untold_all (view w).told) → IsApart floor 1 (untold_all (view w).told)
        by (job.Home x) is apart = apart
        by job.Nothing is apart = absurd is
        by (job.Source x) is apart = absurd is

    sources-apart : (floor : Word → ℕ) (ds : List ObjectDef) (more : List (List Stim)) (ws : List T) → AreWorkers work ds more ws → AreReady (λ w. IsApart floor (starts_of (work w)) (untold_all (view w).told)) ws → AreApart floor 0 (sources_in ds ws)
    sources-apart floor [] [] [] row h = tt
    sources-apart floor [] [] (w ∷ ws) row h = absurd row
    sources-apart floor [] (ss ∷ more) [] row h = absurd row
    sources-apart floor [] (ss ∷ more) (w ∷ ws) row h = (by (work w) row.0 h.0, sources-apart floor [] more ws row.1 h.1)
      where
        by : (x : Job) → IsSourceOf ss x → IsApart floor (starts_of x) (untold_all (view w).told) → IsApart floor 0 (untold_all (view w).told)
        by (job.Source x) is apart = apart
        by job.Nothing is apart = absurd is
        by (job.Home x) is apart = absurd is
    sources-apart floor (d ∷ ds) more [] row h = absurd row
    sources-apart floor (d ∷ ds) more (w ∷ ws) row h = sources-apart floor ds more ws row.1 h.1

    -- The last look.

    below-at : (v : LaneView) (ws : List T) → AllBelow view v ws → (a n : ℕ) (u : LaneView) → IsLaneAt (map view ws) n u → u.mark (word.Queue a) ≤ v.mark (word.Queue a)
    below-at v [] h a zero u at = absurd (cc)
    below-at v [] h a (suc n) u at = absurd (cc)
    below-at v (w ∷ ws) h a zero u at = let same : view w ≡ u = some-same at in subst (λ (x : LaneView). x.mark (word.Queue a) ≤ v.mark (word.Queue a)) same (h.0 (word.Queue a))
    below-at v (w ∷ ws) h a (suc n) u at = below-at v ws h.1 a n u at

    below-all : (w : T) (ws : List T) → AllBelow view (view w) ws → (a n : ℕ) (u : LaneView) → IsLaneAt (view w ∷ map view ws) n u → u.mark (word.Queue a) ≤ (view w).mark (word.Queue a)
    below-all w ws h a zero u at = let same : view w ≡ u = some-same at in subst (λ (x : LaneView). x.mark (word.Queue a) ≤ (view w).mark (word.Queue a)) same (omega arith)
    below-all w ws h a (suc n) u at = below-at (view w) ws h a n u at

    empty-of : (v : LaneView) (ds : List ObjectDef) → AreEmpty (map (λ d. d.priority) ds) v → AllByRecursion (λ d. IsEmpty v d.priority) ds
    empty-of v [] h = tt
    empty-of v (d ∷ ds) h = (h.0, empty-of v ds h.1)

    empty-at : (v : LaneView) (a : ℕ) → AreEmpty (priorities sys) v → IsTrue (is_object sys a) → IsEmpty v a
    unfolding is_object object_at
    empty-at v a h its = by (find (λ x. x.priority == a) sys.objects) refl its
      where
        by : (o : Option ObjectDef) → find (λ x. x.priority == a) sys.objects ≡ o → is_some o ≡ true → IsEmpty v a
        by None e some = absurd (cc)
        by (Some d) e some = subst (IsEmpty v) (priority-is sys a d e) (found-passes (λ d. IsEmpty v d.priority) a sys.objects d (empty-of v sys.objects h) e)

    last-look : (w : T) (ws : List T) → AllBelow view (view w) ws → AreEmpty (priorities sys) (view w) → (a : ℕ) → IsTrue (is_object sys a) → IsLastLook (view w ∷ map view ws) a (view w)
    last-look w ws below empty a its =
        let e = empty-at (view w) a empty its in
        let none = e.empty in
        record { below = λ n u at. below-all w ws below a n u at; f = e.f; l = e.l; m = e.m; says = e.shown; none = omega (arith, none) }

    -- All of it.

    pub has-run : (sound : IsSound sys) (stimuli : List (List Stim)) (done : Bool) (rests : List Rest) (all : List T) → IsRow work sys.objects stimuli all → AreReady Stops all
        → (done ≡ true → AreReady Rests all × HasEnded view (λ w. is_left_in (work w)) (priorities sys) all) → AreShown work all rests → AreAllApart (λ w. starts_of (work w)) view all → HasRun sys stimuli budget done rests (map view all)
    has-run sound stimuli done rests [] row h quietly shown apart = absurd row
    has-run sound stimuli done rests (w ∷ ws) row h quietly shown apart =
        let found = all-found sys sound in
        let empty = nothing-empty sys budget (view w) (work w) row.0 h.0 in
        let homes = homes_in sys.objects ws in
        let sources = sources_in sys.objects ws in
        let lanes = lanes-are sys.objects ws in
        record {
          first = view w;
          homes = homes;
          sources = sources;
          are = ap (λ vs. view w ∷ vs) lanes;
          empty = empty.0;
          early = record {
            homes_end = λ end early. homes-early end early sys.objects stimuli ws found row.1 h.1;
            sources_end = λ end early. sources-early end early sys.objects stimuli ws row.1 h.1;
          };
          quietly = λ is.
              let all = quietly is in
              let calm = homes-quiet sound sys.objects stimuli ws found sound.ascend row.1 all.0.1 in
              let none = sources-quiet sys.objects stimuli ws row.1 all.0.1 (none-left ws all.1.none) in
              record {
                homes_end = calm.1;
                sources_end = none.0;
                rests = record {
                  looks = λ a its. subst (λ vs. IsLastLook vs a (view w)) (ap (λ vs. view w ∷ vs) lanes) (last-look w ws all.1.below all.1.empty a its);
                  keeps = calm.0;
                  rests = calm.2;
                  none = empty.1;
                  idle = none.1;
                };
              };
          told = told-from 0 sys.objects stimuli ws rests found (above-none sys.objects sound.ascend) sound.ascend row.1 h.1 (shown-none w ws rests row.0 shown);
          starts = record { floor = apart.floor; homes_apart = homes-apart apart.floor sys.objects stimuli ws row.1 apart.each.1; sources_apart = sources-apart apart.floor sys.objects stimuli ws row.1 apart.each.1 };
        }
      where
        none-left : (ws : List T) → list_any (λ w. is_left_in (work w)) ws ≡ false → AreReady Nothing_left ws
        none-left ws none = ready-none (λ w. is_left_in (work w)) ws none
