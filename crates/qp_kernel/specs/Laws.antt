-- The laws of a kernel's lane, from its first record to the journal of its run.
use Rattle.std.specs.Prelude.{◌≡◌, ℕ, ◌+◌, ◌<◌, ◌≤◌, ◌==◌, Bool, true, false, List, [], ◌∷◌, ◌++◌, map, length, Some, None, ◌≢◌}
use Rattle.std.specs.declared.option.Option.{Option}
use Rattle.std.specs.List.{list_any}
use Rattle.qp_chart.specs.declared.checked.Chart.{Chart}
use Rattle.qp_model.specs.declared.stimulus.Stim.{Stim}
use Rattle.qp_model.specs.declared.systems.System.{System}
use Rattle.qp_model.specs.declared.systems.ObjectDef.{ObjectDef}
use Rattle.qp_model.specs.declared.journals.Journal.{Journal}
use Rattle.qp_model.specs.declared.bodies.Entry.{Entry}
use Rattle.qp_model.specs.declared.bodies.Body.TheVariants as body
use Rattle.qp_model.specs.Told.{Told, Event, for_object, plain, told_took, untold}
use Rattle.qp_model.specs.Pieces.{Piece, Point, tell}
use Rattle.qp_model.specs.Acts.{Config}
use Rattle.qp_model.specs.Step.{Remainder, StepGoesOn, whole_step}
use Rattle.qp_model.specs.Standing.{StepAdvances}
use Rattle.qp_model.specs.Course.{actor, first_config, Starts}
use Rattle.qp_model.specs.KernelLane.{Reading, Inside, Looking, Chosen, Ended, Resting, Over, floor_in, above, base_ended, looking_at, unread}
use Rattle.qp_model.specs.Ends.{is_end, may_cut, quiet}
use Rattle.qp_model.specs.Sites.{object_at}
use Rattle.qp_model.specs.History.{lane_items}
use Rattle.qp_model.specs.Home.{lane_at}
use Rattle.qp_model.specs.Knowing.{told_lane}
use Rattle.qp_model.specs.Sound.{IsSound}
use Rattle.qp_model.specs.Lawful.{Lawful, facts_of, deferred_of, spill_cuts}
use Rattle.qp_kernel.specs.Stages as stage
use Rattle.qp_kernel.specs.Stages.{IsReady, may_wait, is_resting}
use Rattle.qp_kernel.specs.LaneZero.{Agree, setting, row_of}
use Rattle.qp_kernel.specs.ZeroEnds.{ZeroEnds, most_rows}
use Rattle.qp_kernel.specs.Run.{IsRun}
use Rattle.qp_kernel.specs.QuietRun.{IsQuietRun}
use Rattle.qp_kernel.specs.Turning.{AreNumbered, AreAble, IsObject, KernelState, Stands, Terms, kernel_in, rest_told, IsWithinStep, IsInStep, IsLookPlace, moved, having, look_told, seen_told, spill_told}

-- nothing has been recorded yet, and no object has started
abbrev pub LaneBegins : Type 0
LaneBegins =
    (sys : System) (terms : Terms) (now : ℕ → Bool) (upto : ℕ) → AreNumbered sys
    → Stands sys terms (record { told = []; now = now; upto = upto; reading = unread sys; owed = 0; stages = λ o. stage.Unstarted; entries = λ o. [] })

-- looks in which the stimuli are known are settled; later stimuli change nothing of what has been read
abbrev pub LooksAreSettled : Type 0
LooksAreSettled =
    (sys : System) (terms : Terms) (s : KernelState) (later : ℕ → Bool) (more : ℕ) → Stands sys terms s → s.upto ≤ more
    → Agree s.upto later s.now
    → Stands sys terms (record s { now = later; upto = more })

-- the next object's start comes to its `done`
abbrev pub ObjectStartCompletes : Type 0
ObjectStartCompletes =
    (sys : System) (terms : Terms) (s : KernelState) (p : ℕ) (d : ObjectDef) (chart : Chart) (others : List ℕ) (g : List Told) (c : Config)
    → AreNumbered sys → IsObject sys p d chart → 0 < p → Stands sys terms s → s.owed ≡ 0
    → s.reading.unstarted ≡ p ∷ others → s.stages p ≡ stage.Unstarted
    → Starts sys (actor d chart) (first_config d) (tell g) (Some c)
    → (level : ℕ) × Stands sys terms (record s {
      told = s.told ++ map (for_object p) g;
      reading = record (s.reading) { ceiling = level; unstarted = others };
      stages = moved s.stages p (stage.Resting c);
      entries = having s.entries p (s.entries p);
    })

-- a look with the next count and the floor; the row of the object that owes its point begins
abbrev pub LookIsAdded : Type 0
LookIsAdded =
    (sys : System) (terms : Terms) (s : KernelState) (n floor : ℕ) (next : Reading) → AreNumbered sys
    → Stands sys terms s → s.reading.unstarted ≡ []
    → IsLookPlace (kernel_in terms) s.reading.place s.reading.running → s.owed ≡ row_of s.reading.place s.reading.running
    → n ≡ s.reading.looks + 1 → floor ≡ floor_in sys (kernel_in terms) s.reading.running s.reading.ceiling
    → ((has : ℕ → Bool) → Agree s.upto has s.now → looking_at (setting sys (kernel_in terms) has) (record (s.reading) { looks = n }) (above sys floor) ≡ next)
    → Stands sys terms (record s { told = s.told ++ look_told n floor ∷ []; reading = next; owed = 0 })

-- the next queue is seen empty
abbrev pub EmptyIsSeen : Type 0
EmptyIsSeen =
    (sys : System) (terms : Terms) (s : KernelState) (p : ℕ) (others : List ℕ) (f l m : ℕ) (next : Reading)
    → AreNumbered sys → Stands sys terms s → s.owed ≡ 0
    → s.reading.unstarted ≡ [] → s.reading.place ≡ Looking p others → f + l ≤ m
    → ((has : ℕ → Bool) → Agree s.upto has s.now → looking_at (setting sys (kernel_in terms) has) s.reading others ≡ next)
    → Stands sys terms (record s { told = s.told ++ seen_told p f l m ∷ []; reading = next })

-- the next queue is seen with an entry
abbrev pub EntryIsSeen : Type 0
EntryIsSeen =
    (sys : System) (terms : Terms) (s : KernelState) (p : ℕ) (others : List ℕ) (f l m : ℕ) → AreNumbered sys
    → Stands sys terms s → s.owed ≡ 0
    → s.reading.unstarted ≡ [] → s.reading.place ≡ Looking p others → m < f + l
    → Stands sys terms (record s { told = s.told ++ seen_told p f l m ∷ []; reading = record (s.reading) { place = Chosen p } })

-- a look at the base has shown no entry: the kernel rests, and the row goes on or is over
abbrev pub RestIsAdded : Type 0
RestIsAdded =
    (sys : System) (terms : Terms) (s : KernelState) (n : ℕ) (next : Reading) → AreNumbered sys → Stands sys terms s → s.owed ≡ 0
    → s.reading.unstarted ≡ [] → s.reading.place ≡ Resting → n ≡ s.reading.looks
    → ((has : ℕ → Bool) → Agree s.upto has s.now → base_ended (setting sys (kernel_in terms) has) s.reading ≡ next)
    → Stands sys terms (record s { told = s.told ++ rest_told n ∷ []; reading = next })

-- the object found takes its entry up, below its budget
abbrev pub StepBegins : Type 0
StepBegins =
    (sys : System) (terms : Terms) (s : KernelState) (p : ℕ) (d : ObjectDef) (chart : Chart) (f l m : ℕ) (e : Entry) (ev : Event) (c : Config)
    → AreNumbered sys → AreAble sys → IsObject sys p d chart → 0 < p → Stands sys terms s → s.owed ≡ 0
    → s.reading.unstarted ≡ [] → s.reading.place ≡ Chosen p → s.stages p ≡ stage.Resting c
    → length (s.entries p) < terms.budget
    → Stands sys terms (record s {
      told = s.told ++ for_object p (told_took f l m e ev) ∷ [];
      reading = record (s.reading) { running = p ∷ s.reading.running; place = Inside; stepped = true };
      stages = moved s.stages p (stage.Begun ev e (whole_step (actor d chart) c ev) c);
      entries = having s.entries p (s.entries p ++ e ∷ []);
    })

-- the running object goes on to its next scheduling point, and owes it
abbrev pub StepPauses : Type 0
StepPauses =
    (sys : System) (terms : Terms) (s : KernelState) (p : ℕ) (d : ObjectDef) (chart : Chart) (outer : List ℕ) (g : List Told)
    (ev : Event) (e : Entry) (left later : Remainder) (c after : Config)
    → AreNumbered sys → IsObject sys p d chart → 0 < p → Stands sys terms s → s.owed ≡ 0
    → IsInStep s.reading p outer → IsWithinStep (s.stages p) ev e left c
    → StepAdvances sys (actor d chart) ev e left c (tell g ++ Point ∷ []) later after
    → IsReady sys (actor d chart) later after
    → (level : ℕ) × Stands sys terms (record s {
      told = s.told ++ map (for_object p) g;
      reading = record (s.reading) { ceiling = level };
      owed = p;
      stages = moved s.stages p (stage.Paused ev e later after);
      entries = having s.entries p (s.entries p);
    })

-- the running object's step comes to its end
abbrev pub StepEnds : Type 0
StepEnds =
    (sys : System) (terms : Terms) (s : KernelState) (p : ℕ) (d : ObjectDef) (chart : Chart) (outer : List ℕ) (g : List Told)
    (ev : Event) (e : Entry) (left : Remainder) (c after : Config)
    → AreNumbered sys → IsObject sys p d chart → 0 < p → Stands sys terms s → s.owed ≡ 0
    → IsInStep s.reading p outer → IsWithinStep (s.stages p) ev e left c
    → StepGoesOn sys (actor d chart) ev e left c (tell g) (Some after)
    → (level : ℕ) × Stands sys terms (record s {
      told = s.told ++ map (for_object p) g;
      reading = record (s.reading) { ceiling = level; running = outer; place = Ended p };
      stages = moved s.stages p (stage.Resting after);
      entries = having s.entries p (s.entries p);
    })

-- the other objects wait, or have not started
abbrev pub OthersWait : System → KernelState → ℕ → Type 0
OthersWait sys s p = (d : ObjectDef) → object_at sys d.priority ≡ Some d → (p == d.priority) ≡ false → may_wait (s.stages d.priority) ≡ true

abbrev pub AllWait : System → KernelState → Type 0
AllWait sys s = (d : ObjectDef) → object_at sys d.priority ≡ Some d → may_wait (s.stages d.priority) ≡ true

-- The run ends quietly where the row at the base is over and every object rests.
abbrev pub RunEndsQuietly : Type 0
RunEndsQuietly =
    (sys : System) (terms : Terms) (s : KernelState) (has : ℕ → Bool) → AreNumbered sys → AreAble sys
    → Stands sys terms s → Agree s.upto has s.now → s.owed ≡ 0
    → s.reading.unstarted ≡ [] → s.reading.running ≡ [] → s.reading.place ≡ Over
    → ((d : ObjectDef) → object_at sys d.priority ≡ Some d → is_resting (s.stages d.priority) ≡ true)
    → ZeroEnds sys (kernel_in terms) terms.budget quiet (most_rows (kernel_in terms) s.reading.idle) s.told has

-- it stops in another lane
abbrev pub RunStopsElsewhere : Type 0
RunStopsElsewhere =
    (sys : System) (terms : Terms) (end : ℕ) (s : KernelState) (has : ℕ → Bool) → AreNumbered sys → AreAble sys
    → Stands sys terms s → Agree s.upto has s.now
    → may_cut end ≡ true → s.reading.unstarted ≡ [] → AllWait sys s → ZeroEnds sys (kernel_in terms) terms.budget end (most_rows (kernel_in terms) s.reading.idle) s.told has

-- an object whose queue is seen with an entry has taken its budget
abbrev pub BudgetEnds : Type 0
BudgetEnds =
    (sys : System) (terms : Terms) (end : ℕ) (s : KernelState) (has : ℕ → Bool) (p : ℕ) (others : List ℕ) (f l m : ℕ)
    → AreNumbered sys → AreAble sys → Stands sys terms s
    → Agree s.upto has s.now → may_cut end ≡ true → s.owed ≡ 0 → s.reading.unstarted ≡ []
    → s.reading.place ≡ Looking p others → m < f + l → length (s.entries p) ≡ terms.budget → 0 < p
    → is_resting (s.stages p) ≡ true → AllWait sys s
    → ZeroEnds sys (kernel_in terms) terms.budget end (most_rows (kernel_in terms) s.reading.idle) (s.told ++ seen_told p f l m ∷ for_object p (plain body.Spent) ∷ []) has

-- a step ends in its assertion
abbrev pub AssertionEndsStep : Type 0
AssertionEndsStep =
    (sys : System) (terms : Terms) (end : ℕ) (s : KernelState) (has : ℕ → Bool) (p : ℕ) (d : ObjectDef) (chart : Chart) (outer : List ℕ) (g : List Told)
    (ev : Event) (e : Entry) (left : Remainder) (c : Config)
    → AreNumbered sys → AreAble sys → IsObject sys p d chart → 0 < p → Stands sys terms s → Agree s.upto has s.now
    → may_cut end ≡ true → s.owed ≡ 0
    → IsInStep s.reading p outer → IsWithinStep (s.stages p) ev e left c
    → StepGoesOn sys (actor d chart) ev e left c (tell g) None → OthersWait sys s p
    → ZeroEnds sys (kernel_in terms) terms.budget end (most_rows (kernel_in terms) s.reading.idle) (s.told ++ map (for_object p) g) has

-- a start ends in its assertion
abbrev pub AssertionEndsStart : Type 0
AssertionEndsStart =
    (sys : System) (terms : Terms) (end : ℕ) (s : KernelState) (has : ℕ → Bool) (p : ℕ) (d : ObjectDef) (chart : Chart) (others : List ℕ) (g : List Told)
    → AreNumbered sys → AreAble sys → IsObject sys p d chart → 0 < p → Stands sys terms s → Agree s.upto has s.now
    → may_cut end ≡ true → s.owed ≡ 0
    → s.reading.unstarted ≡ p ∷ others → s.stages p ≡ stage.Unstarted
    → Starts sys (actor d chart) (first_config d) (tell g) None → OthersWait sys s p
    → ZeroEnds sys (kernel_in terms) terms.budget end (most_rows (kernel_in terms) s.reading.idle) (s.told ++ map (for_object p) g) has

-- the lane's last record, a `spill`, right behind a record of p, states how many stand before it, and they fill the lane
pub record SpillFills (s : KernelState) (p : ℕ) (g : List Told) (n : ℕ) : Type 0 where
  pub count : n ≡ length s.told + length g
  pub full : 999992 < n
  pub behind : spill_cuts p (map untold (s.told ++ (map (for_object p) g ++ spill_told n ∷ []))) ≡ true

-- a `spill` cuts a step, anywhere up to its release
abbrev pub SpillEndsStep : Type 0
SpillEndsStep =
    (sys : System) (terms : Terms) (end : ℕ) (s : KernelState) (has : ℕ → Bool) (p : ℕ) (d : ObjectDef) (chart : Chart) (outer : List ℕ) (g : List Told) (n : ℕ)
    (ev : Event) (e : Entry) (left : Remainder) (c : Config) (qs : List Piece) (last : Option Config)
    → AreNumbered sys → AreAble sys → IsObject sys p d chart → 0 < p → Stands sys terms s → Agree s.upto has s.now
    → may_cut end ≡ true → s.owed ≡ 0
    → IsInStep s.reading p outer → IsWithinStep (s.stages p) ev e left c → list_any (λ t. is_end t.body) g ≡ false
    → StepGoesOn sys (actor d chart) ev e left c (tell g ++ qs) last → OthersWait sys s p → SpillFills s p g n
    → ZeroEnds sys (kernel_in terms) terms.budget end (most_rows (kernel_in terms) s.reading.idle) (s.told ++ (map (for_object p) g ++ spill_told n ∷ [])) has

-- a `spill` cuts a start, of which something is left
abbrev pub SpillEndsStart : Type 0
SpillEndsStart =
    (sys : System) (terms : Terms) (end : ℕ) (s : KernelState) (has : ℕ → Bool) (p : ℕ) (d : ObjectDef) (chart : Chart)
    (others : List ℕ) (g : List Told) (n : ℕ) (qs : List Piece) (last : Option Config)
    → AreNumbered sys → AreAble sys → IsObject sys p d chart → 0 < p → Stands sys terms s → Agree s.upto has s.now
    → may_cut end ≡ true → s.owed ≡ 0 → s.reading.unstarted ≡ p ∷ others → s.stages p ≡ stage.Unstarted
    → list_any (λ t. is_end t.body) g ≡ false → qs ≢ [] → Starts sys (actor d chart) (first_config d) (tell g ++ qs) last
    → OthersWait sys s p → SpillFills s p g n
    → ZeroEnds sys (kernel_in terms) terms.budget end (most_rows (kernel_in terms) s.reading.idle) (s.told ++ (map (for_object p) g ++ spill_told n ∷ [])) has

-- the lane has no room for what comes next
abbrev pub FullLaneEnds : Type 0
FullLaneEnds =
    (sys : System) (terms : Terms) (end : ℕ) (s : KernelState) (has : ℕ → Bool) (n : ℕ) → AreNumbered sys → AreAble sys
    → Stands sys terms s → Agree s.upto has s.now
    → may_cut end ≡ true → n ≡ length s.told → 999992 < n → AllWait sys s
    → ZeroEnds sys (kernel_in terms) terms.budget end (most_rows (kernel_in terms) s.reading.idle) (s.told ++ spill_told n ∷ []) has

-- A run that has ended leaves a lawful journal.
abbrev pub RunsAreLawful : Type 0
RunsAreLawful = (sys : System) (stimuli : List (List Stim)) (j : Journal) → IsRun sys stimuli j → Lawful sys stimuli j

-- the deferred entries that these objects keep
abbrev pub kept_by : (ℕ → Config) → List ObjectDef → List Entry
kept_by keeps [] = []
kept_by keeps (d ∷ ds) = (keeps d.priority).kept ++ kept_by keeps ds

-- The deferred entries of a journal whose lane 0 has these records are those that the objects keep at rest.
abbrev pub DeferredAreKept : Type 0
DeferredAreKept =
    (sys : System) (terms : Terms) (s : KernelState) (j : Journal) (keeps : ℕ → Config) → IsSound sys → j.kernel ≡ kernel_in terms
    → told_lane (facts_of sys j) 0 (lane_items (lane_at j 0)) ≡ s.told → Stands sys terms s → s.owed ≡ 0
    → ((d : ObjectDef) → object_at sys d.priority ≡ Some d → s.stages d.priority ≡ stage.Resting (keeps d.priority))
    → deferred_of sys j sys.objects ≡ kept_by keeps sys.objects

-- A run that comes to its end by itself leaves a lawful journal.
abbrev pub QuietRunsAreLawful : Type 0
QuietRunsAreLawful = (sys : System) (stimuli : List (List Stim)) (j : Journal) (s : KernelState) → IsQuietRun sys stimuli j s → Lawful sys stimuli j
