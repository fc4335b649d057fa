-- What the states of an object's course keep.
use Rattle.std.specs.Prelude.{◌≡◌, ◌≤◌, Bool, true, false, Some, None}
use Rattle.std.specs.declared.option.Option.{Option}
use Rattle.qp_chart.specs.declared.checked.Chart.{Chart}
use Rattle.qp_model.specs.declared.systems.System.{System}
use Rattle.qp_model.specs.declared.systems.ObjectDef.{ObjectDef}
use Rattle.qp_model.specs.Able.{chart_able}
use Rattle.qp_model.specs.Acts.{Actor}
use Rattle.qp_model.specs.Course.{actor, chart_at}
use Rattle.qp_model.specs.Ends.{is_assert}
use Rattle.qp_check_calls.specs.declared.pieces.Piece.{Piece}
use Rattle.qp_check_calls.specs.declared.pieces.Piece.TheVariants.{Tell, Point}
use Rattle.qp_check_course.specs.Machine.{State}
use Rattle.qp_check_course.specs.Followable.{with_eight}
use Rattle.qp_check_course.specs.Ready.{MayGoOnFrom}
use Rattle.qp_check_course.specs.FewLeft.{FewLeft}

-- the chart's actions have what they ask for, and make events of at most eight parameters; so many entries can be deferred
pub record IsAble (sys : System) (a : Actor) : Type 0 where
  pub able : chart_able sys a.chart ≡ true
  pub few : chart_able with_eight a.chart ≡ true
  pub room : a.room ≤ 255

-- the course can go on from this state, and the tasks left make events of at most eight parameters
pub record CanRun (sys : System) (a : Actor) (s : State) : Type 0 where
  pub ready : MayGoOnFrom sys a s
  pub few : FewLeft s

-- what was found is this state, from which the course can go on; or none
abbrev pub Leads : System → Actor → Option State → Option State → Type 0
Leads sys a found None = found ≡ None
Leads sys a found (Some s) = (found ≡ Some s) × CanRun sys a s

-- an object of the system, with its chart
pub record IsActorOf (sys : System) (d : ObjectDef) (own : System) (chart : Chart) (a : Actor) : Type 0 where
  pub system : own ≡ sys
  pub found : chart_at sys d.chart ≡ Some chart
  pub object : a ≡ actor d chart
  pub room : d.defer ≤ 255

-- a point, or nothing
abbrev pub is_point : Option Piece → Bool
is_point None = true
is_point (Some Point) = true
is_point (Some (Tell t)) = false

-- an assertion
abbrev pub piece_asserts : Piece → Bool
piece_asserts (Tell t) = is_assert t.body
piece_asserts Point = false
