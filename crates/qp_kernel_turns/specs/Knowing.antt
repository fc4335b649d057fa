-- What is known of a kernel, its objects and their lane between two calls. The state is there for proofs alone.
use Rattle.std.specs.Prelude.{◌≡◌, ℕ, ◌+◌, ◌<◌, ◌≤◌, ◌==◌, Bool, true, false, List, [], ◌∷◌, map, length, reverse, Some, None}
use Rattle.std.specs.declared.option.Option.{Option}
use Rattle.std.specs.List.{list_all, AllByRecursion}
use Rattle.std.specs.Option.{is_some}
use Rattle.qp_chart.specs.StateTree.{has}
use Rattle.qp_chart.specs.declared.checked.Chart.{Chart}
use Rattle.qp_model.specs.declared.systems.System.{System}
use Rattle.qp_model.specs.declared.systems.ObjectDef.{ObjectDef}
use Rattle.qp_model.specs.declared.bodies.Entry as model
use Rattle.qp_model.specs.Told.{Event, ToldItem}
use Rattle.qp_model.specs.Acts.{Config}
use Rattle.qp_model.specs.Step.{Remainder}
use Rattle.qp_model.specs.Course.{chart_at}
use Rattle.qp_model.specs.Sites.{object_at}
use Rattle.qp_model.specs.KernelLane.{Reading, looking_at}
use Rattle.qp_model_order.specs.RunOrder.{has_stim}
use Rattle.qp_calls.specs.Tokens.{Token}
use Rattle.qp_calls.specs.Counting.{count_of}
use Rattle.qp_calls.specs.Clauses.{entry_of}
use Rattle.qp_calls.specs.Deferring.{is_named, kept_in, tokens_in}
use Rattle.qp_calls.specs.LaneView.{LaneView, ceiling_in}
use Rattle.qp_calls.specs.Notes.{spills_told}
use Rattle.qp_chart_compiled.specs.Compiled.{IsCompiled}
use Rattle.qp_dispatch.specs.declared.objects.Object.{Object}
use Rattle.qp_dispatch.specs.declared.steps.Going.{Going}
use Rattle.qp_dispatch.specs.declared.steps.Position.TheVariants as standing
use Rattle.qp_dispatch.specs.Lasts.{config_of}
use Rattle.qp_dispatch.specs.Objects.{HasFirst, setting_for}
use Rattle.qp_dispatch.specs.Resume.{IsUnderWay, step_event, held_in, remainder_of, step_entry}
use Rattle.qp_dispatch.specs.Runs.{ObjectSetting}
use Rattle.qp_kernel.specs.Happenings.{lanes_of}
use Rattle.qp_kernel.specs.LaneZero.{row_of, setting}
use Rattle.qp_kernel.specs.Stages as stage
use Rattle.qp_kernel.specs.Stages.{Stage, is_resting}
use Rattle.qp_kernel.specs.Turning.{IsInStep, IsLookPlace, KernelState, Stands, Terms, kernel_in}
use Rattle.qp_kernel_turns.specs.declared.objects.Objects.{Objects}
use Rattle.qp_kernel_turns.specs.declared.objects.Slot.{Slot}
use Rattle.qp_kernel_turns.specs.Objects.{IsAt}

-- The entries that objects keep.

-- how often an object keeps this reference
abbrev pub own_count : Token → Object → ℕ
own_count t x = count_of t (tokens_in (map entry_of (held_in x.lasting x.stage)))

-- how often all of them do
unfoldable pub kept_count : Token → List (Option Slot) → ℕ
kept_count t [] = 0
kept_count t (None ∷ xs) = kept_count t xs
kept_count t (Some slot ∷ xs) = own_count t slot.object + kept_count t xs

-- the references that the objects keep stand in the hands
abbrev pub HandsCover : Objects → LaneView → Type 0
HandsCover xs v = (t : Token) → kept_count t xs.slots.items ≤ count_of t v.hands

-- the places at which objects stand
abbrev pub occupied : Objects → List Bool
occupied xs = map (λ (x : Option Slot). is_some x) xs.slots.items

-- the hands changed as what the objects keep did, and objects stand where they stood
pub record HandsFollow (xs : Objects) (v : LaneView) (ys : Objects) (w : LaneView) : Type 0 where
  pub counts : (t : Token) → count_of t w.hands + kept_count t xs.slots.items ≡ count_of t v.hands + kept_count t ys.slots.items
  pub seats : occupied ys ≡ occupied xs

-- How far an object has come.

pub record HasNotStarted (d : ObjectDef) (x : Object) : Type 0 where
  pub unstarted : x.started ≡ false
  pub between : x.stage ≡ standing.Between
  pub first : HasFirst d x.lasting

pub record IsAtRest (c : Config) (x : Object) : Type 0 where
  pub started : x.started ≡ true
  pub between : x.stage ≡ standing.Between
  pub config : c ≡ config_of x.lasting
  pub few : length (kept_in x.lasting.list) ≤ x.lasting.list.entries.capacity

pub record IsInTurn (home : ObjectSetting) (ev : Event) (e : model.Entry) (due : Remainder) (c : Config) (x : Object) (v : LaneView) : Type 0 where
  pub started : x.started ≡ true
  pub under_way : IsUnderWay home x.lasting x.stage v
  pub event : ev ≡ step_event x.stage v
  pub entry : e ≡ step_entry x.stage
  pub left : due ≡ remainder_of home x.lasting x.stage v
  pub config : c ≡ config_of x.lasting

abbrev pub StageIs : System → ObjectDef → Chart → Object → LaneView → Stage → Type 0
StageIs sys d chart x v stage.Unstarted = HasNotStarted d x
StageIs sys d chart x v (stage.Resting c) = IsAtRest c x
StageIs sys d chart x v (stage.Begun ev e left c) = IsInTurn (setting_for sys chart x) ev e left c x v
StageIs sys d chart x v (stage.Paused ev e left c) =
    (g : Going) × (x.stage ≡ standing.Within g) × IsInTurn (setting_for sys chart x) ev e left c x v

-- an object of the system, with its chart, at this stage and with so many entries taken up
pub record IsObjectAt (sys : System) (d : ObjectDef) (chart : Chart) (slot : Slot) (v : LaneView) (s : Stage) (count : ℕ) : Type 0 where
  pub threshold : slot.threshold ≡ d.threshold
  pub me : slot.object.me ≡ d.priority
  pub of : slot.object.chart ≡ d.chart
  pub compiled : IsCompiled chart slot.object.compiled
  pub room : slot.object.lasting.list.entries.capacity ≡ d.defer
  pub named : list_all (is_named sys) (held_in slot.object.lasting slot.object.stage) ≡ true
  pub taken : slot.object.taken ≡ count
  pub stage : StageIs sys d chart slot.object v s

pub record KnowsObject (sys : System) (d : ObjectDef) (chart : Chart) (xs : Objects) (v : LaneView) (s : Stage) (count : ℕ) : Type 0 where
  pub slot : Slot
  pub there : IsAt xs d.priority slot
  pub is : IsObjectAt sys d chart slot v s count

-- each object of the system
abbrev pub KnowsAll : System → Objects → LaneView → (ℕ → Stage) → (ℕ → List model.Entry) → Type 0
KnowsAll sys xs v stages entries =
    (d : ObjectDef) (chart : Chart) → object_at sys d.priority ≡ Some d → chart_at sys d.chart ≡ Some chart
    → KnowsObject sys d chart xs v (stages d.priority) (length (entries d.priority))

-- The lane.

pub record IsLane (sys : System) (ceiling : ℕ) (v : LaneView) : Type 0 where
  pub of : v.sys ≡ sys
  pub told : ceiling ≡ ceiling_in 0 v.told
  pub spills : spills_told v.told ≡ false
  pub serves : (d : ObjectDef) → object_at sys d.priority ≡ Some d → v.serves d.priority ≡ true

-- The kernel has looked so often, and these are the objects whose steps are under way, the outermost first.
pub record Knows (sys : System) (terms : Terms) (looks : ℕ) (stack : List ℕ) (xs : Objects) (v : LaneView) : Type 0 where
  pub state : KernelState
  pub told : state.told ≡ v.told
  pub stands : Stands sys terms state
  pub counted : state.reading.looks ≡ looks
  pub ceiling : state.reading.ceiling ≡ xs.ceiling
  pub lane : IsLane sys xs.ceiling v
  pub running : state.reading.running ≡ reverse stack
  pub settled : state.upto ≡ looks
  pub now : state.now ≡ has_stim (lanes_of v)
  pub later : (n : ℕ) → looks < n → has_stim (lanes_of v) n ≡ false
  pub objects : KnowsAll sys xs v state.stages state.entries
  pub hands : HandsCover xs v

-- the same, and where the lane stands
pub record KnowsAt (P : KernelState → Type 0) (sys : System) (terms : Terms) (looks : ℕ) (stack : List ℕ) (xs : Objects) (v : LaneView) : Type 0 where
  pub knows : Knows sys terms looks stack xs v
  pub at : P knows.state

-- Where the lane stands.

-- no object has started
pub record IsUnstarted (s : KernelState) : Type 0 where
  pub owed : s.owed ≡ 0
  pub fresh : (o : ℕ) → s.stages o ≡ stage.Unstarted

-- it is above all of these
abbrev pub IsAbove : ℕ → List ℕ → Type 0
IsAbove p [] = Unit {0}
IsAbove p (q ∷ qs) = (q < p) × IsAbove p qs

-- each is above those behind it
abbrev pub Descends : List ℕ → Type 0
Descends [] = Unit {0}
Descends (p ∷ ps) = IsAbove p ps × Descends ps

abbrev pub is_paused : Stage → Bool
is_paused (stage.Paused ev e left c) = true
is_paused _ = false

abbrev pub is_busy : Stage → Bool
is_busy (stage.Begun ev e left c) = true
is_busy (stage.Paused ev e left c) = true
is_busy _ = false

-- an object of the system, with its chart
pub record IsObjectWithChart (sys : System) (p : ℕ) : Type 0 where
  pub object : ObjectDef
  pub chart : Chart
  pub is : object.priority ≡ p
  pub found : object_at sys object.priority ≡ Some object
  pub its : chart_at sys object.chart ≡ Some chart

-- all objects have started; those whose steps are under way are each above the ones that they interrupt, these of them wait at a
-- scheduling point, and all others rest
pub record HasStack (sys : System) (waiting : List ℕ) (s : KernelState) : Type 0 where
  pub started : s.reading.unstarted ≡ []
  pub named : AllByRecursion (IsObjectWithChart sys) s.reading.running
  pub descends : Descends s.reading.running
  pub rests : (d : ObjectDef) → object_at sys d.priority ≡ Some d → has s.reading.running d.priority ≡ false → is_resting (s.stages d.priority) ≡ true
  pub waits : (o : ℕ) → has waiting o ≡ true → is_paused (s.stages o) ≡ true

-- a look may stand here
pub record MayLook (sys : System) (terms : Terms) (s : KernelState) : Type 0 where
  pub stack : HasStack sys s.reading.running s
  pub place : IsLookPlace (kernel_in terms) s.reading.place s.reading.running
  pub owed : s.owed ≡ row_of s.reading.place s.reading.running

-- a look has come to these objects, which are above those under way
pub record IsScanning (sys : System) (terms : Terms) (others : List ℕ) (s : KernelState) : Type 0 where
  pub stack : HasStack sys s.reading.running s
  pub owed : s.owed ≡ 0
  pub here : Reading
  pub same : s.reading ≡ looking_at (setting sys (kernel_in terms) s.now) here others
  pub counted : here.looks ≡ s.upto
  pub above : AllByRecursion (λ p. IsObjectWithChart sys p × IsAbove p s.reading.running) others

-- the last record is of p
abbrev pub last_is : ℕ → List ToldItem → Bool
last_is p [] = false
last_is p (t ∷ []) = t.of == p
last_is p (t ∷ u ∷ ts) = last_is p (u ∷ ts)

-- the step of p goes on; where it has just begun, the lane's last record is its own
pub record IsRunning (sys : System) (p : ℕ) (s : KernelState) : Type 0 where
  pub outer : List ℕ
  pub stack : HasStack sys outer s
  pub owed : s.owed ≡ 0
  pub step : IsInStep s.reading p outer
  pub under_way : is_busy (s.stages p) ≡ true
  pub behind : is_paused (s.stages p) ≡ false → last_is p s.told ≡ true
