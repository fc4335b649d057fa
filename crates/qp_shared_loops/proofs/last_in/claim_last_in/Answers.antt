use Rattle.std.proofs.Common.{◌+◌, arith, sym, subst, eqb}
use prog.Atomic.{either}
use Rattle.qp_model.specs.declared.bodies.Entry.{Entry}
use Rattle.qp_table.specs.After.{WordSteps}
use Rattle.qp_table.specs.Told.{LastTold}
use Rattle.qp_table.proofs.StepLawLemmas.{last_tries_tell}
use Rattle.qp_shared_loops.specs.Ends.{FitsCells}
use Rattle.qp_shared_loops.proofs.Shortness.{with-short}
use Rattle.qp_shared_loops.proofs.last_in.claim_last_in.Goals as goal

pub exchange-requires-clause-own : goal.exchange-requires-clause-own
exchange-requires-clause-own g c = let w = c.requires.wide in let at = c.queue_at.ensures in (c.requires.own, omega arith)

pub exchange-requires-clause-keeps : goal.exchange-requires-clause-keeps
exchange-requires-clause-keeps g c =
    let e : Entry = record { pool = c.args.pool; block = c.args.block; name = c.args.name } in
    subst (λ w. WordSteps c.args.words.now.shared.key c.args.seat.now.id c.args.seat.now.me.0 w (λ n. either (eqb n c.args.old) (c.args.old + 2097152) n) (λ n u. LastTold c.args.words.now.shared.key c.args.object e c.args.seat.now.me.0 c.args.old n u × FitsCells c.args.words.now.shared.key c.args.object n)) (sym c.queue_at.ensures)
    (with-short c.args.words.now.shared.key c.args.seat.now.id c.args.seat.now.me.0 c.args.object (λ n. either (eqb n c.args.old) (c.args.old + 2097152) n) (LastTold c.args.words.now.shared.key c.args.object e c.args.seat.now.me.0 c.args.old) c.requires.object
    (last_tries_tell c.args.words.now.shared.key c.args.seat.now.id c.args.seat.now.me.0 c.requires.room c.args.object c.requires.object e c.args.old c.requires.hand c.requires.serves c.requires.idle c.requires.last c.requires.free))

pub returns-clause-told : goal.returns-clause-told
returns-clause-told g c = c.exchange.ensures.told.0

pub returns-clause-short : goal.returns-clause-short
returns-clause-short g c = c.exchange.ensures.told.1
