use Rattle.qp_check_lanes.specs.WordTotals.{count_in}
use Rattle.qp_check_kernel.proofs.TurnLemmas.{acting-behind, acting-before}
use Rattle.qp_check_kernel.proofs.source_turn.Progress.acting.Goals as goal

pub returns-in-Some : goal.returns-in-Some
returns-in-Some c = acting-behind c.args.rests (count_in c.args.self.now.begun) c.args.self.now.last c.min-last.result c.args.stimuli.now c.min-last.ensures c.in-Some.source c.in-Some.ensures

pub returns-in-None : goal.returns-in-None
returns-in-None c =
    acting-before c.args.rests (count_in c.args.self.now.begun) c.args.self.now.last c.min-last.result c.args.stimuli.now c.min-last.ensures c.first-in-None.result
    c.in-None.ensures c.first-in-None.ensures
