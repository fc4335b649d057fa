use Rattle.std.proofs.Common.{◌≡◌, ◌≤◌, drop}
use Rattle.qp_check_lanes.specs.WordState.{shows_from}
use Rattle.qp_check_lanes.proofs.word_state.is_shown.Given as goal

abbrev pub invariant-loop-n : goal.invariant-loop-n
invariant-loop-n g l = record {
  same : g.H.WordState.machine l.held ≡ g.H.WordState.machine l.initial.held;
  rest :
      shows_from (g.H.WordState.machine l.initial.held) (g.H.WordState.machine l.initial.held).first l.history l.shown
      ≡ shows_from (g.H.WordState.machine l.initial.held) (g.H.WordState.state l.held) (drop l.n l.history) (drop l.n l.shown);
  counted : (g.H.WordState.machine l.initial.held).count (g.H.WordState.state l.held) ≤ l.n;
}
