use Rattle.std.proofs.Common.{◌≡◌, take, map}
use Rattle.qp_chart_names.specs.declared.raw.RawState.{RawState}
use Rattle.qp_chart_names.proofs.tables.names_of_states.Given as goal

abbrev pub invariant-loop-state : goal.invariant-loop-state
invariant-loop-state l = l.names.items ≡ map (λ (s : RawState). s.name) (take l.state-index l.states)
