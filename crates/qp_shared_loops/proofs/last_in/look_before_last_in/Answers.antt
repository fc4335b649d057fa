use Rattle.std.proofs.Common.{arith, sym, subst}
use Rattle.qp_table.specs.After.{WordSteps}
use Rattle.qp_table.specs.Told.{EyeLastTold}
use Rattle.qp_table.proofs.StepLawLemmas.{last_eyes_tell}
use Rattle.qp_shared_loops.specs.Ends.{FitsCells}
use Rattle.qp_shared_loops.proofs.Shortness.{with-short}
use Rattle.qp_shared_loops.proofs.last_in.look_before_last_in.Goals as goal

pub look-requires-clause-own : goal.look-requires-clause-own
look-requires-clause-own c = let w = c.requires.wide in let at = c.queue_at.ensures in (c.requires.own, omega arith)

pub look-requires-clause-keeps : goal.look-requires-clause-keeps
look-requires-clause-keeps c = subst (λ w. WordSteps c.args.words.now.shared.key c.args.seat.now.id c.args.seat.now.me.0 w (λ n. n) (λ n u. EyeLastTold c.args.words.now.shared.key c.args.object c.args.seat.now.me.0 n u × FitsCells c.args.words.now.shared.key c.args.object n)) (sym c.queue_at.ensures)
    (with-short c.args.words.now.shared.key c.args.seat.now.id c.args.seat.now.me.0 c.args.object (λ n. n) (EyeLastTold c.args.words.now.shared.key c.args.object c.args.seat.now.me.0) c.requires.object
    (last_eyes_tell c.args.words.now.shared.key c.args.seat.now.id c.args.seat.now.me.0 c.requires.room c.args.object c.requires.object))

pub returns-clause-told : goal.returns-clause-told
returns-clause-told c = c.look.ensures.told.0

pub returns-clause-short : goal.returns-clause-short
returns-clause-short c = c.look.ensures.told.1
