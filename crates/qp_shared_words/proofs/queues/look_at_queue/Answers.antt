use Rattle.std.proofs.Common.{arith, sym, subst}
use Rattle.qp_table.specs.After.{WordSteps}
use Rattle.qp_table.specs.Told.{LookTold}
use Rattle.qp_table.proofs.StepLawLemmas.{looks_tell}
use Rattle.qp_shared_words.proofs.queues.look_at_queue.Goals as goal

pub look-requires-clause-own : goal.look-requires-clause-own
look-requires-clause-own c = let w = c.requires.wide in let at = c.queue_at.ensures in (c.requires.own, omega arith)

pub look-requires-clause-keeps : goal.look-requires-clause-keeps
look-requires-clause-keeps c = subst (λ w. WordSteps c.args.words.now.shared.key c.args.seat.now.id c.args.seat.now.me.0 w (λ n. n) (LookTold c.args.words.now.shared.key c.args.object c.args.seat.now.me.0)) (sym c.queue_at.ensures)
    (looks_tell c.args.words.now.shared.key c.args.seat.now.id c.args.seat.now.me.0 c.args.object c.requires.object)
