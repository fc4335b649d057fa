use Rattle.std.proofs.Common.{◌+◌, ◌%◌, arith, sym, subst}
use Rattle.qp_model.specs.declared.bodies.Entry.{Entry}
use Rattle.qp_table.specs.After.{WordSteps}
use Rattle.qp_table.specs.Told.{FreeTold}
use Rattle.qp_table.proofs.StepLawLemmas.{frees_tell}
use Rattle.qp_shared_loops.specs.Ends.{KnowsEvent}
use Rattle.qp_shared_loops.proofs.Freeing.{with-event}
use Rattle.qp_shared_loops.proofs.takes.free_entry.Goals as goal

pub add-requires-clause-own : goal.add-requires-clause-own
add-requires-clause-own c = let w = c.requires.wide in let at = c.queue_at.ensures in (c.requires.own, omega arith)

pub add-requires-clause-keeps : goal.add-requires-clause-keeps
add-requires-clause-keeps c =
    let e : Entry = record { pool = c.args.pool; block = c.args.block; name = c.args.name } in
    subst (λ w. WordSteps c.args.words.now.shared.key c.args.seat.now.id c.args.seat.now.me.0 w (λ n. (n + 4398046511104) % 18446744073709551616) (λ n u. FreeTold c.args.words.now.shared.key c.args.object c.args.cell e c.args.seat.now.me.0 n u × KnowsEvent c.args.words.now.shared.key e u)) (sym c.queue_at.ensures)
    (with-event c.args.words.now.shared.key c.args.seat.now.id c.args.seat.now.me.0 c.args.object c.args.cell e (λ n. (n + 4398046511104) % 18446744073709551616)
    (frees_tell c.args.words.now.shared.key c.args.seat.now.id c.args.seat.now.me.0 c.requires.room c.args.object c.args.cell e c.requires.object c.requires.serves c.requires.take))

pub returns-clause-told : goal.returns-clause-told
returns-clause-told c = c.add.ensures.told.0

pub returns-clause-event : goal.returns-clause-event
returns-clause-event c = c.add.ensures.told.1
