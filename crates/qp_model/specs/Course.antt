-- An object's whole life: its start, and a step over each entry that it takes.
use Rattle.std.specs.Prelude.{◌≡◌, ℕ, ◌-◌, ◌⊎◌, pos, List, [], ◌∷◌, ◌++◌, slice_get, IsTrue, Some, None}
use Rattle.std.specs.declared.option.Option.{Option}
use Rattle.qp_chart.specs.declared.checked.Chart.{Chart}
use Rattle.qp_chart.specs.Agenda.{start_plan}
use Rattle.qp_model.specs.declared.systems.System.{System}
use Rattle.qp_model.specs.declared.systems.ObjectDef.{ObjectDef}
use Rattle.qp_model.specs.declared.bodies.Entry.{Entry}
use Rattle.qp_model.specs.Pieces.{Piece, records_in, tell, ends_at_point, begins_at_point}
use Rattle.qp_model.specs.Acts.{Config, Actor, Moment, Does}
use Rattle.qp_model.specs.Step.{Step, at_leaf}

-- a start works on no event
abbrev pub at_start : Moment
at_start = record { event = record { sig = 0; pars = [] }; entry = None }

-- the start, in which no row of looks stands
unfoldable pub Starts : System → Actor → Config → List Piece → Option Config → Type 0
unfolding Does records_in start_plan
Starts sys a first ps end =
    (all : List Piece) × (mid : Option Config)
    × Does sys a at_start (start_plan a.chart).tasks first all mid × (ps ≡ tell (records_in all)) × (end ≡ at_leaf (start_plan a.chart).leaf mid)

-- a step over each entry, in order, while nothing is asserted
unfoldable pub Steps : System → Actor → List Entry → Option Config → List Piece → Option Config → Type 0
unfolding Step
Steps sys a [] c ps end = (ps ≡ []) × (end ≡ c)
Steps sys a (e ∷ es) None ps end = ⊥
Steps sys a (e ∷ es) (Some c) ps end =
    (one rest : List Piece) × (mid : Option Config) × (ps ≡ one ++ rest) × Step sys a e c one mid × Steps sys a es mid rest end

-- the course over these entries from the first configuration
unfoldable pub Course : System → Actor → Config → List Entry → List Piece → Option Config → Type 0
unfolding Starts Steps
Course sys a first es ps end =
    (start rest : List Piece) × (mid : Option Config) × (ps ≡ start ++ rest) × Starts sys a first start mid × Steps sys a es mid rest end

-- an object begins with its first variables, `ok` 0 and an empty deferred list
abbrev pub first_config : ObjectDef → Config
first_config d = record { leaf = 0; vars = d.vars; ok = pos 0; kept = []; former = 0 }

-- the object with its chart
abbrev pub actor : ObjectDef → Chart → Actor
actor d chart = record { o = d.priority; chart = chart; room = d.defer }

abbrev pub chart_at : System → ℕ → Option Chart
chart_at sys n = slice_get sys.charts (n - 1)

-- the pieces are a course of the object over some entries
unfoldable pub FollowsAs : System → ObjectDef → Option Chart → List Piece → Type 0
unfolding Course
FollowsAs sys d None ps = ⊥
FollowsAs sys d (Some chart) ps = (es : List Entry) × (end : Option Config) × Course sys (actor d chart) (first_config d) es ps end

-- the pieces follow the object's chart
unfoldable pub Follows : System → ObjectDef → List Piece → Type 0
unfolding FollowsAs
Follows sys d ps = FollowsAs sys d (chart_at sys d.chart) ps

-- the pieces are a course to its end: no assertion broke it off
unfoldable pub FollowsThroughAs : System → ObjectDef → Option Chart → List Piece → Type 0
unfolding Course
FollowsThroughAs sys d None ps = ⊥
FollowsThroughAs sys d (Some chart) ps = (es : List Entry) × (end : Config) × Course sys (actor d chart) (first_config d) es ps (Some end)

unfoldable pub FollowsThrough : System → ObjectDef → List Piece → Type 0
unfolding FollowsThroughAs
FollowsThrough sys d ps = FollowsThroughAs sys d (chart_at sys d.chart) ps

-- how the list of an object may end: it is whole; or it stopped at a scheduling point; or a `spill` cut it after any record
pub data Cut : Type 0 where
  Whole : Cut
  Stopped : Cut
  Anywhere : Cut

-- a whole list comes to the end of a course; one that stopped is the front of a course, which ends there, or goes on there, at a point
unfoldable pub FollowsTo : System → ObjectDef → Cut → List Piece → Type 0
unfolding Follows FollowsThrough ends_at_point
FollowsTo sys d Whole ps = FollowsThrough sys d ps
FollowsTo sys d Stopped ps = (back : List Piece) × Follows sys d (ps ++ back) × (IsTrue (ends_at_point ps) ⊎ IsTrue (begins_at_point back))
FollowsTo sys d Anywhere ps = (back : List Piece) × Follows sys d (ps ++ back)
