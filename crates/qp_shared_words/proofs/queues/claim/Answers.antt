use Rattle.std.proofs.Common.{◌+◌, arith, sym, subst, eqb}
use prog.Atomic.{either}
use Rattle.qp_table.specs.After.{WordSteps}
use Rattle.qp_table.specs.Told.{TryTold}
use Rattle.qp_table.proofs.StepLawLemmas.{tries_tell}
use Rattle.qp_shared_words.proofs.queues.claim.Goals as goal

pub exchange-requires-clause-own : goal.exchange-requires-clause-own
exchange-requires-clause-own g c = let w = c.requires.wide in let at = c.queue_at.ensures in (c.requires.own, omega arith)

pub exchange-requires-clause-keeps : goal.exchange-requires-clause-keeps
exchange-requires-clause-keeps g c = subst (λ w. WordSteps c.args.words.now.shared.key c.args.seat.now.id c.args.seat.now.me.0 w (λ n. either (eqb n c.args.old) (c.args.old + 1) n) (TryTold c.args.words.now.shared.key c.args.object c.args.by c.args.margin (record { pool = c.args.pool; block = c.args.block; name = c.args.name }) c.args.seat.now.me.0 c.args.old)) (sym c.queue_at.ensures)
    (tries_tell c.args.words.now.shared.key c.args.seat.now.id c.args.seat.now.me.0 c.requires.room c.args.object c.requires.object c.args.by c.args.margin (record { pool = c.args.pool; block = c.args.block; name = c.args.name }) c.args.old c.requires.hand c.requires.last c.requires.free)
