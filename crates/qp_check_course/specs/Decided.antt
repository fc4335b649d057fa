-- What the states of an object's course decide of its list.
use Rattle.std.specs.Prelude.{◌≡◌, Bool, true, false, ◌&&◌, ◌||◌, List, Some, None}
use Rattle.std.specs.declared.option.Option.{Option}
use Rattle.qp_chart.specs.declared.checked.Chart.{Chart}
use Rattle.qp_model.specs.declared.systems.System.{System}
use Rattle.qp_model.specs.declared.systems.ObjectDef.{ObjectDef}
use Rattle.qp_model.specs.Able.{chart_able}
use Rattle.qp_model.specs.Pieces.{Piece, records_in, ends_at_point}
use Rattle.qp_model.specs.Course.{Cut, Whole, Stopped, Anywhere, chart_at, actor, first_config}
use Rattle.qp_check_course.specs.Machine.{State, start_state, state_after, is_course_end, expects_point}
use Rattle.qp_check_course.specs.Passing.{asserts_where_cut}

-- a list may be cut so in this state; `at_point` is whether the list ends at a point
abbrev pub may_be_cut : Cut → (at_point : Bool) → State → Bool
may_be_cut Whole at_point s = is_course_end s
may_be_cut Stopped at_point s = at_point || (is_course_end s || expects_point s)
may_be_cut Anywhere at_point s = true

abbrev pub ends_well : Cut → Bool → Option State → Bool
ends_well cut at_point None = false
ends_well cut at_point (Some s) = may_be_cut cut at_point s

-- the pieces are read to the last one, and the list may be cut there
unfoldable pub reads_to : System → ObjectDef → Chart → Cut → List Piece → Bool
unfolding records_in ends_at_point state_after start_state
reads_to sys d chart cut ps =
    ends_well cut (ends_at_point ps) (state_after sys (actor d chart) (start_state (actor d chart) (first_config d)) ps) && asserts_where_cut cut (records_in ps)

-- an object has its chart, whose actions have what they ask for
pub record HasChart (sys : System) (d : ObjectDef) (chart : Chart) : Type 0 where
  pub is : chart_at sys d.chart ≡ Some chart
  pub able : chart_able sys chart ≡ true
