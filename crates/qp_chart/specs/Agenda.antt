-- The agenda of a start and of a step: all that it is to do, known as soon as its handler is.
use Rattle.std.specs.Prelude.{ℕ, List, [], ◌∷◌, ◌++◌}
use Rattle.std.specs.Prelude.{Some, None}
use Rattle.std.specs.declared.option.Option.{Option}
use Rattle.qp_chart.specs.declared.checked.Chart.{Chart}
use Rattle.qp_chart.specs.Expr.{Names}
use Rattle.qp_chart.specs.Handler.{Handler, handler}
use Rattle.qp_chart.specs.MainState.{main_state, exited, entered}
use Rattle.qp_chart.specs.Task.{Task, Begin, Run, Unhandled, Done, tasks_of, exits, entries}
use Rattle.qp_chart.specs.Drill.{Plan, plan_before, drill}

-- the exits and the entries below the main state
unfoldable pub crossing : Chart → Option ℕ → ℕ → ℕ → List Task
unfolding entered entries exited exits
crossing chart main leaf t = exits chart (exited chart main leaf) ++ entries chart (entered chart main t)

-- the transition to t by a row of s: exits, entries, and then initial transitions from t on
unfoldable pub transition : Chart → ℕ → ℕ → ℕ → Plan
unfolding crossing drill main_state
transition chart leaf s t = plan_before (crossing chart (main_state chart s t) leaf t) (drill chart t)

-- a row without a target leaves the leaf
unfoldable pub moves : Chart → ℕ → ℕ → Option ℕ → Plan
unfolding transition
moves chart leaf s None = record { tasks = []; leaf = leaf }
moves chart leaf s (Some t) = transition chart leaf s t

-- the note of the handler, the actions of its row, and its transition; or the note that there is none
unfoldable pub handled : Chart → ℕ → Option Handler → Plan
unfolding moves tasks_of
handled chart leaf None = record { tasks = Unhandled ∷ []; leaf = leaf }
handled chart leaf (Some h) = plan_before (Run h.state h.place ∷ tasks_of h.row.acts) (moves chart leaf h.state h.row.to)

abbrev pub ended : Plan → Plan
ended plan = record { tasks = plan.tasks ++ Done ∷ []; leaf = plan.leaf }

-- the agenda of a step from the leaf over an event of this signal
unfoldable pub step_plan : Chart → ℕ → Names → ℕ → Plan
unfolding handled handler
step_plan chart leaf names sig = ended (handled chart leaf (handler chart names sig leaf))

-- the agenda of a start: the chart's initial actions, the entries down to the initial state, and its initial transitions
unfoldable pub start_plan : Chart → Plan
unfolding drill entered entries tasks_of
start_plan chart = ended (plan_before (Begin ∷ tasks_of chart.init_do ++ entries chart (entered chart None chart.init)) (drill chart chart.init))
