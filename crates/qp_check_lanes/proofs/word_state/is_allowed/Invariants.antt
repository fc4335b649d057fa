use Rattle.std.proofs.Common.{◌≡◌, ◌≤◌, drop}
use Rattle.qp_model.specs.Machine.{is_allowed, allowed_from}
use Rattle.qp_check_lanes.proofs.word_state.is_allowed.Given as goal

abbrev pub invariant-loop-r : goal.invariant-loop-r
invariant-loop-r g l = record {
  same : g.H.WordState.machine l.held ≡ g.H.WordState.machine l.initial.held;
  rest : is_allowed (g.H.WordState.machine l.initial.held) l.history ≡ allowed_from (g.H.WordState.machine l.initial.held) (g.H.WordState.state l.held) (drop l.r-index l.history);
  counted : (g.H.WordState.machine l.initial.held).count (g.H.WordState.state l.held) ≤ l.r-index;
}
