use Rattle.std.proofs.Common.{arith, sym, subst}
use Rattle.qp_table.specs.After.{WordSteps}
use Rattle.qp_table.specs.Told.{NilTold}
use Rattle.qp_table.proofs.StepLawLemmas.{empty_queues_tell}
use Rattle.qp_shared_words.specs.Nils.{is_new}
use Rattle.qp_shared_words.proofs.queues.look_before_take.Goals as goal

pub look-requires-clause-own : goal.look-requires-clause-own
look-requires-clause-own c = let w = c.requires.wide in let at = c.queue_at.ensures in (c.requires.own, omega arith)

pub look-requires-clause-keeps : goal.look-requires-clause-keeps
look-requires-clause-keeps c = subst (λ w. WordSteps c.args.words.now.shared.key c.args.seat.now.id c.args.seat.now.me.0 w (λ n. n) (NilTold c.args.words.now.shared.key (is_new c.args.last) c.args.object c.args.seat.now.me.0)) (sym c.queue_at.ensures)
    (empty_queues_tell c.args.words.now.shared.key c.args.seat.now.id c.args.seat.now.me.0 c.requires.room c.args.object c.requires.object (is_new c.args.last))
