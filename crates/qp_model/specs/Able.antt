-- What an action asks of the system: a pool for its event, and an entry that is at hand.
use Rattle.std.specs.Prelude.{ℕ, Bool, true, false, ◌||◌, ◌&&◌, length, is_some}
use Rattle.std.specs.List.{list_all}
use Rattle.qp_chart.specs.declared.actions.Plain.{Plain}
use Rattle.qp_chart.specs.declared.actions.Plain.TheVariants as action
use Rattle.qp_chart.specs.declared.actions.Act.{Act}
use Rattle.qp_chart.specs.declared.actions.Act.TheVariants as act
use Rattle.qp_chart.specs.declared.checked.State.{State}
use Rattle.qp_chart.specs.declared.checked.Chart.{Chart}
use Rattle.qp_chart.specs.Task.{Task, Do}
use Rattle.qp_model.specs.declared.systems.System.{System}
use Rattle.qp_model.specs.Parts.{is_static, sizes_of, first_pool}

-- an event of this signal with n parameters is static, or has a pool that is large enough
unfoldable pub has_pool : System → ℕ → ℕ → Bool
unfolding first_pool is_static sizes_of
has_pool sys sig n = is_static sys sig || is_some (first_pool (sizes_of sys) n)

-- the event of the action has its pool, and an entry is at hand for `forward` and `defer`
unfoldable pub is_able : System → Bool → Plain → Bool
unfolding has_pool
is_able sys at_hand (action.Post to sig pars margin reserve) = has_pool sys sig (length pars)
is_able sys at_hand (action.Lifo sig pars reserve) = has_pool sys sig (length pars)
is_able sys at_hand (action.Publish sig pars reserve) = has_pool sys sig (length pars)
is_able sys at_hand (action.Forward to margin) = at_hand
is_able sys at_hand action.Defer = at_hand
is_able sys at_hand _ = true

-- the same of a task
unfoldable pub task_able : System → Bool → Task → Bool
unfolding is_able
task_able sys at_hand (Do p) = is_able sys at_hand p
task_able sys at_hand _ = true

-- the same of an action of a chart
unfoldable pub act_able : System → Bool → Act → Bool
unfolding is_able
act_able sys at_hand (act.Plain p) = is_able sys at_hand p
act_able sys at_hand (act.Locked ceiling acts) = list_all (is_able sys at_hand) acts

-- an entry is at hand in the rows alone
unfoldable pub state_able : System → State → Bool
unfolding act_able
state_able sys s =
    list_all (act_able sys false) s.entry && list_all (act_able sys false) s.exit && list_all (act_able sys false) s.init_do
    && list_all (λ row. list_all (act_able sys true) row.acts) s.row

-- each action of the chart has what it asks for
unfoldable pub chart_able : System → Chart → Bool
unfolding act_able state_able
chart_able sys chart = list_all (act_able sys false) chart.init_do && list_all (state_able sys) chart.state
