use Rattle.std.proofs.Common.{◌≡◌, drop}
use Rattle.qp_check_lanes.specs.WordState.{all_say}
use Rattle.qp_check_lanes.proofs.word_state.all_say.Given as goal

abbrev pub invariant-loop-r : goal.invariant-loop-r
invariant-loop-r g l = all_say (g.H.WordState.machine l.held) (g.H.WordState.state l.held) l.shown ≡ all_say (g.H.WordState.machine l.held) (g.H.WordState.state l.held) (drop l.r-index l.shown)
