-- The laws of the lane that an object has for itself, from its first record to its end.
use Rattle.std.specs.Prelude.{◌≡◌, ◌≢◌, ℕ, suc, ◌+◌, ◌<◌, ◌≤◌, Bool, true, false, List, [], ◌∷◌, ◌++◌, map, length, Some, None}
use Rattle.std.specs.declared.option.Option.{Option}
use Rattle.std.specs.List.{list_any}
use Rattle.qp_chart.specs.declared.checked.Chart.{Chart}
use Rattle.qp_model.specs.declared.systems.System.{System}
use Rattle.qp_model.specs.declared.systems.ObjectDef.{ObjectDef}
use Rattle.qp_model.specs.declared.bodies.Entry.{Entry}
use Rattle.qp_model.specs.declared.bodies.Body.TheVariants as body
use Rattle.qp_model.specs.Told.{Told, ToldItem, Event, for_object, plain, told_took}
use Rattle.qp_model.specs.Pieces.{Piece, Point, tell}
use Rattle.qp_model.specs.Acts.{Config}
use Rattle.qp_model.specs.Able.{chart_able}
use Rattle.qp_model.specs.Ends.{is_end, may_cut}
use Rattle.qp_model.specs.Step.{Remainder, StepGoesOn, whole_step}
use Rattle.qp_model.specs.Standing.{StepAdvances}
use Rattle.qp_model.specs.Course.{actor, first_config, chart_at, Starts}
use Rattle.qp_model.specs.Lawful.{dispatched}
use Rattle.qp_model.specs.OutputSummary.{CourseLeaves}
use Rattle.qp_calls.specs.Clauses.{last_nil, same_counts}
use Rattle.qp_calls.specs.LaneView.{Own, NotShown, own_after}
use Rattle.qp_kernel.specs.Stages.{IsReady}
use Rattle.qp_kernel.specs.Turning.{seen_told, spill_told}
use Rattle.qp_kernel.specs.ZeroEnds.{own_told}
use Rattle.qp_port_law.specs.Homes.{HomeEnds}
use Rattle.qp_port_law.specs.HomeLanes.{IsHomeLane, IsPartHome, IsWholeHome}

-- the object of the lane, with its chart, whose actions have what they ask for
pub record IsHomeOf (sys : System) (d : ObjectDef) (chart : Chart) : Type 0 where
  pub some : 0 < d.priority
  pub its : chart_at sys d.chart ≡ Some chart
  pub able : chart_able sys chart ≡ true

-- whole groups in the lane, over so many scheduling points, and what else is known of its records
abbrev pub HomeRests : System → ObjectDef → Chart → ℕ → Own → Bool → List ToldItem → List Entry → ℕ → Config → Type 0
HomeRests sys d chart budget own looked told es points c = IsHomeLane d.priority budget own looked told es × IsWholeHome sys d chart told es points c

-- the same where a step is under way
abbrev pub IsBusy : System → ObjectDef → Chart → ℕ → Own → Bool → Bool → List ToldItem → List Entry → ℕ → Event → Entry → Remainder → Config → Type 0
IsBusy sys d chart budget own looked waits told es points ev e left c = IsHomeLane d.priority budget own looked told es × IsPartHome sys d chart waits told es points ev e left c

-- the lane has posted and taken as much, or more
pub record HasMore (own more : Own) : Type 0 where
  pub l : own.l ≤ more.l
  pub m : own.m ≤ more.m

-- so it has behind any records of its own
abbrev pub OwnRises : Type 0
OwnRises = (a : ℕ) (own : Own) (ts : List ToldItem) → HasMore own (own_after a own ts)

-- the object's start comes to its `done`
abbrev pub HomeStartCompletes : Type 0
HomeStartCompletes =
    (sys : System) (d : ObjectDef) (chart : Chart) (budget : ℕ) (own : Own) (g : List Told) (c : Config) → IsHomeOf sys d chart
    → Starts sys (actor d chart) (first_config d) (tell g) (Some c) → HomeRests sys d chart budget own false (map (for_object d.priority) g) [] 0 c

-- its queue is found empty, and the lane tells so, since its last `nil` showed another thing
abbrev pub NilIsTold : Type 0
NilIsTold =
    (sys : System) (d : ObjectDef) (chart : Chart) (budget : ℕ) (own : Own) (looked : Bool) (told : List ToldItem) (es : List Entry) (points : ℕ) (c : Config) (f l m : ℕ) → IsHomeOf sys d chart
    → l ≡ own.l → m ≡ own.m → f + l ≡ m → same_counts (last_nil d.priority NotShown told) f l m ≡ false
    → HomeRests sys d chart budget own looked told es points c → HomeRests sys d chart budget own looked (told ++ for_object d.priority (plain (body.Nil f l m)) ∷ []) es points c

-- at the budget its queue is looked at for the first time, and is empty
abbrev pub LookIsTold : Type 0
LookIsTold =
    (sys : System) (d : ObjectDef) (chart : Chart) (budget : ℕ) (own : Own) (told : List ToldItem) (es : List Entry) (points : ℕ) (c : Config) (f l m : ℕ) → IsHomeOf sys d chart
    → l ≡ own.l → m ≡ own.m → f + l ≡ m → length es ≡ budget
    → HomeRests sys d chart budget own false told es points c → HomeRests sys d chart budget own true (told ++ seen_told d.priority f l m ∷ []) es points c

-- below its budget it takes an entry up: a step begins
abbrev pub HomeStepBegins : Type 0
HomeStepBegins =
    (sys : System) (d : ObjectDef) (chart : Chart) (budget : ℕ) (own more : Own) (looked : Bool) (told : List ToldItem) (es : List Entry) (points : ℕ) (c : Config) (f l m : ℕ) (e : Entry) (ev : Event)
    → IsHomeOf sys d chart → HasMore own more → length es < budget → HomeRests sys d chart budget own looked told es points c
    → IsBusy sys d chart budget more false false (told ++ for_object d.priority (told_took f l m e ev) ∷ []) (es ++ e ∷ []) points ev e (whole_step (actor d chart) c ev) c

-- its step goes on to the next scheduling point
abbrev pub HomeStepPauses : Type 0
HomeStepPauses =
    (sys : System) (d : ObjectDef) (chart : Chart) (budget : ℕ) (own more : Own) (waits : Bool) (told : List ToldItem) (es : List Entry) (points : ℕ) (ev : Event) (e : Entry) (left later : Remainder)
    (c after : Config) (g : List Told)
    → IsHomeOf sys d chart → HasMore own more → StepAdvances sys (actor d chart) ev e left c (tell g ++ Point ∷ []) later after → IsReady sys (actor d chart) later after
    → IsBusy sys d chart budget own false waits told es points ev e left c → IsBusy sys d chart budget more false true (told ++ map (for_object d.priority) g) es (suc points) ev e later after

-- its step comes to its end, with the release of its entry, and the object rests
abbrev pub HomeStepEnds : Type 0
HomeStepEnds =
    (sys : System) (d : ObjectDef) (chart : Chart) (budget : ℕ) (own more : Own) (waits : Bool) (told : List ToldItem) (es : List Entry) (points : ℕ) (ev : Event) (e : Entry) (left : Remainder)
    (c after : Config) (g : List Told)
    → IsHomeOf sys d chart → HasMore own more → StepGoesOn sys (actor d chart) ev e left c (tell g) (Some after)
    → IsBusy sys d chart budget own false waits told es points ev e left c → HomeRests sys d chart budget more false (told ++ map (for_object d.priority) g) es points after

-- an object that rests is where the course of its records leaves it, whatever marks stand behind them
abbrev pub RestingHomeLeaves : Type 0
RestingHomeLeaves =
    (sys : System) (d : ObjectDef) (chart : Chart) (budget : ℕ) (own : Own) (looked : Bool) (told ts : List ToldItem) (es : List Entry) (points : ℕ) (c : Config) → HomeRests sys d chart budget own looked told es points c
    → dispatched (own_told d.priority ts) ≡ [] → CourseLeaves sys d chart (own_told d.priority (told ++ ts)) c

-- Where the run stops, the lane ends as it may: the object hasn't started;
abbrev pub UnstartedHomeEnds : Type 0
UnstartedHomeEnds = (sys : System) (d : ObjectDef) (chart : Chart) (budget end : ℕ) → IsHomeOf sys d chart → may_cut end ≡ true → HomeEnds sys d budget end []

-- its start ends in its assertion;
abbrev pub HomeStartFails : Type 0
HomeStartFails =
    (sys : System) (d : ObjectDef) (chart : Chart) (budget end : ℕ) (g : List Told) → IsHomeOf sys d chart → may_cut end ≡ true
    → Starts sys (actor d chart) (first_config d) (tell g) None → HomeEnds sys d budget end (map (for_object d.priority) g)

-- its start is cut by a `spill`, with something left;
abbrev pub HomeStartIsCut : Type 0
HomeStartIsCut =
    (sys : System) (d : ObjectDef) (chart : Chart) (budget end : ℕ) (g : List Told) (n : ℕ) (qs : List Piece) (last : Option Config) → IsHomeOf sys d chart → may_cut end ≡ true
    → qs ≢ [] → list_any (λ t. is_end t.body) g ≡ false → Starts sys (actor d chart) (first_config d) (tell g ++ qs) last
    → n ≡ length g → 999992 < n
    → HomeEnds sys d budget end (map (for_object d.priority) g ++ spill_told n ∷ [])

-- it rests, and the run stops elsewhere;
abbrev pub RestingHomeEnds : Type 0
RestingHomeEnds =
    (sys : System) (d : ObjectDef) (chart : Chart) (budget end : ℕ) (own : Own) (looked : Bool) (told : List ToldItem) (es : List Entry) (points : ℕ) (c : Config) → IsHomeOf sys d chart → may_cut end ≡ true
    → HomeRests sys d chart budget own looked told es points c → HomeEnds sys d budget end told

-- it rests, and its lane has no room for what comes next;
abbrev pub FullHomeEnds : Type 0
FullHomeEnds =
    (sys : System) (d : ObjectDef) (chart : Chart) (budget end : ℕ) (own : Own) (looked : Bool) (told : List ToldItem) (es : List Entry) (points : ℕ) (c : Config) (n : ℕ) → IsHomeOf sys d chart
    → may_cut end ≡ true → HomeRests sys d chart budget own looked told es points c → n ≡ length told → 999992 < n → HomeEnds sys d budget end (told ++ spill_told n ∷ [])

-- it has taken its budget, and its queue is seen with an entry;
abbrev pub SpentHomeEnds : Type 0
SpentHomeEnds =
    (sys : System) (d : ObjectDef) (chart : Chart) (budget end : ℕ) (own : Own) (looked : Bool) (told : List ToldItem) (es : List Entry) (points : ℕ) (c : Config) (f l m : ℕ) → IsHomeOf sys d chart
    → may_cut end ≡ true → HomeRests sys d chart budget own looked told es points c → l ≡ own.l → m ≡ own.m → m < f + l → length es ≡ budget
    → HomeEnds sys d budget end (told ++ seen_told d.priority f l m ∷ for_object d.priority (plain body.Spent) ∷ [])

-- its step waits at a scheduling point, and the run stops elsewhere;
abbrev pub WaitingHomeEnds : Type 0
WaitingHomeEnds =
    (sys : System) (d : ObjectDef) (chart : Chart) (budget end : ℕ) (own : Own) (looked : Bool) (told : List ToldItem) (es : List Entry) (points : ℕ) (ev : Event) (e : Entry) (left : Remainder) (c : Config)
    → IsHomeOf sys d chart → may_cut end ≡ true → IsBusy sys d chart budget own looked true told es points ev e left c → HomeEnds sys d budget end told

-- its step ends in its assertion;
abbrev pub HomeStepFails : Type 0
HomeStepFails =
    (sys : System) (d : ObjectDef) (chart : Chart) (budget end : ℕ) (own : Own) (looked waits : Bool) (told : List ToldItem) (es : List Entry) (points : ℕ) (ev : Event) (e : Entry) (left : Remainder)
    (c : Config) (g : List Told)
    → IsHomeOf sys d chart → may_cut end ≡ true → IsBusy sys d chart budget own looked waits told es points ev e left c → StepGoesOn sys (actor d chart) ev e left c (tell g) None
    → HomeEnds sys d budget end (told ++ map (for_object d.priority) g)

-- its step is cut by a `spill`, which stands right behind a record of the object.
abbrev pub HomeStepIsCut : Type 0
HomeStepIsCut =
    (sys : System) (d : ObjectDef) (chart : Chart) (budget end : ℕ) (own : Own) (looked waits : Bool) (told : List ToldItem) (es : List Entry) (points : ℕ) (ev : Event) (e : Entry) (left : Remainder)
    (c : Config) (g : List Told) (n : ℕ) (qs : List Piece) (last : Option Config)
    → IsHomeOf sys d chart → may_cut end ≡ true → IsBusy sys d chart budget own looked waits told es points ev e left c
    → list_any (λ t. is_end t.body) g ≡ false → StepGoesOn sys (actor d chart) ev e left c (tell g ++ qs) last
    → n ≡ length told + length g → 999992 < n
    → HomeEnds sys d budget end (told ++ (map (for_object d.priority) g ++ spill_told n ∷ []))
