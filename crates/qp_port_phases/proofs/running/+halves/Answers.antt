use Rattle.qp_port_phases.proofs.TurnLemmas.{turn_each-append}
use Rattle.qp_port_phases.proofs.running.+halves.Goals as goal

pub run_lanes-returns : goal.run_lanes-returns
run_lanes-returns g t c =
    let cut = c.split_at_mut-front.ensures in
    let both = c.both_halves.ensures in
    rw cut.value (turn_each-append (g.M.Manner.turned c.args.how.now) _ _ _ _ both.front both.back)
