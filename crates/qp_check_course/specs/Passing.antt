-- An object's records without the points between them.
use Rattle.std.specs.Prelude.{ℕ, Bool, true, false, ◌&&◌, ◌||◌, List, [], ◌∷◌, Some, None}
use Rattle.std.specs.declared.option.Option.{Option}
use Rattle.std.specs.Option.{option_and_then}
use Rattle.qp_chart.specs.declared.checked.Chart.{Chart}
use Rattle.qp_chart.specs.Task.{Task}
use Rattle.qp_model.specs.declared.systems.System.{System}
use Rattle.qp_model.specs.declared.systems.ObjectDef.{ObjectDef}
use Rattle.qp_model.specs.declared.bodies.Entry.{Entry}
use Rattle.qp_model.specs.Told.{Told, Event}
use Rattle.qp_model.specs.Acts.{Config, Actor}
use Rattle.qp_model.specs.Course.{Cut, Whole, Stopped, Anywhere, actor, first_config}
use Rattle.qp_model.specs.ObjectShape.{asserts_none}
use Rattle.qp_check_course.specs.Goes.{Stepping}
use Rattle.qp_check_course.specs.Machine.{State, AtPoint, AtPost, closing, tasks_state, resume, start_state, tell_next, is_course_end, expects_point}

-- the state behind the point of an action
abbrev pub through : State → (Config → State) → State
through (AtPoint ev e ts leaf c) go = go c
through s go = s

-- the state in which these tasks of a step are left, once no point is expected any more
unfoldable pub settle_past : Actor → Event → Entry → ℕ → List Task → Config → State
unfolding tasks_state
settle_past a ev e leaf [] c = closing (Stepping ev e) leaf c
settle_past a ev e leaf (t ∷ ts) c = through (tasks_state a (Stepping ev e) leaf (t ∷ ts) c) (λ d. settle_past a ev e leaf ts d)

-- the points of actions are passed
unfoldable pub pass_actions : Actor → State → State
unfolding settle_past
pass_actions a (AtPoint ev e ts leaf c) = settle_past a ev e leaf ts c
pass_actions a s = s

-- each point that is expected is passed, until another piece is
unfoldable pub pass : Actor → State → State
unfolding pass_actions tasks_state
pass a (AtPost way rest ts leaf c) = pass_actions a (resume way true rest leaf ts (tasks_state a way leaf ts) c)
pass a s = pass_actions a s

-- what some records make of a state, with the points between them
unfoldable pub run_told : System → Actor → State → List Told → Option State
unfolding pass tell_next
run_told sys a s [] = Some s
run_told sys a s (t ∷ g) = option_and_then (λ later. run_told sys a later g) (tell_next sys a (pass a s) t)

abbrev pub is_none_told : List Told → Bool
is_none_told [] = true
is_none_told (t ∷ g) = false

-- a list without its points may be cut so in this state
unfoldable pub may_end_told : Actor → Cut → (nothing : Bool) → State → Bool
unfolding pass
may_end_told a Whole nothing s = is_course_end (pass a s)
may_end_told a Stopped nothing s = nothing || (is_course_end s || expects_point s)
may_end_told a Anywhere nothing s = true

abbrev pub told_well : Actor → Cut → Bool → Option State → Bool
told_well a cut nothing None = false
told_well a cut nothing (Some s) = may_end_told a cut nothing s

-- an assertion is among the records only where the list may be cut
abbrev pub asserts_where_cut : Cut → List Told → Bool
asserts_where_cut Whole g = asserts_none g
asserts_where_cut cut g = true

-- the records are read to the last one, and the list may be cut there
unfoldable pub told_to : System → ObjectDef → Chart → Cut → List Told → Bool
unfolding may_end_told run_told start_state
told_to sys d chart cut g =
    told_well (actor d chart) cut (is_none_told g) (run_told sys (actor d chart) (start_state (actor d chart) (first_config d)) g) && asserts_where_cut cut g
