-- Where an object stands behind its records.
use Rattle.std.specs.Prelude.{◌≡◌, true, false, List, ◌++◌, Some, None}
use Rattle.std.specs.declared.option.Option.{Option}
use Rattle.qp_chart.specs.declared.checked.Chart.{Chart}
use Rattle.qp_model.specs.declared.systems.System.{System}
use Rattle.qp_model.specs.declared.systems.ObjectDef.{ObjectDef}
use Rattle.qp_model.specs.declared.bodies.Entry.{Entry}
use Rattle.qp_model.specs.Told.{Told}
use Rattle.qp_model.specs.Pieces.{Piece, records_in}
use Rattle.qp_model.specs.Acts.{Config}
use Rattle.qp_model.specs.Course.{Course, FollowsTo, Cut, actor, chart_at, first_config}
use Rattle.qp_model.specs.OutputSummary.{all_done, begins_nothing}
use Rattle.qp_check_course.specs.Machine.{State, Between, Releasing, Returning}
use Rattle.qp_check_course.specs.declared.standing.Standing.{Standing}

-- the configuration of a state in which no start and no step is under way; a release may be
abbrev pub config_left_in : State → Option Config
config_left_in (Between c) = Some c
config_left_in (Releasing e c) = Some c
config_left_in (Returning p b d c) = Some c
config_left_in s = None

-- the leaf and the variables of a configuration
pub record IsOf (c : Config) (s : Standing) : Type 0 where
  pub leaf : s.leaf ≡ c.leaf
  pub vars : s.vars.items ≡ c.vars

abbrev pub ShowsLeft : Option Config → Option Standing → Type 0
ShowsLeft None s = s ≡ None
ShowsLeft (Some c) None = ⊥
ShowsLeft (Some c) (Some s) = IsOf c s

-- the records follow the object's chart, with some points between them
unfoldable pub FollowSomehow : System → ObjectDef → List Told → Type 0
unfolding FollowsTo records_in
FollowSomehow sys d g = (cut : Cut) × (ps : List Piece) × (records_in ps ≡ g) × FollowsTo sys d cut ps

-- the course of these records leaves the configuration; where the last release was cut, its rest is added
unfoldable pub LeavesAt : System → ObjectDef → Chart → List Told → Config → Type 0
unfolding Course records_in
LeavesAt sys d chart g c =
    (ps back : List Piece) × (es : List Entry) × (records_in ps ≡ g) × (begins_nothing back ≡ true)
    × Course sys (actor d chart) (first_config d) es (ps ++ back) (Some c)

-- an object stands somewhere exactly where its start and each step that began are done: there its course has come to the standing
unfoldable pub StandsAt : System → ObjectDef → List Told → Option Standing → Type 0
unfolding LeavesAt
StandsAt sys d g None = all_done g ≡ false
StandsAt sys d g (Some s) =
    (all_done g ≡ true) × (chart : Chart) × (c : Config) × (chart_at sys d.chart ≡ Some chart) × LeavesAt sys d chart g c × IsOf c s
