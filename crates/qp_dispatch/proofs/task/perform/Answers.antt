use Rattle.std.proofs.Common.{refl}
use Rattle.qp_chart.specs.Task as task
use Rattle.qp_model.specs.declared.bodies.Body.TheVariants as item
use Rattle.qp_dispatch.specs.Lasts.{moment_of_work}
use Rattle.qp_dispatch.proofs.task.perform.Goals as goal

pub noted-requires-clause-note : goal.noted-requires-clause-note
noted-requires-clause-note g c = (task.Begin, item.Begin, refl, c.begin.ensures)

pub noted-requires-in-Run-clause-note : goal.noted-requires-in-Run-clause-note
noted-requires-in-Run-clause-note g c = ((task.Run c.in-Run.state c.in-Run.place), (item.Run c.in-Run.state c.in-Run.place), refl, c.run.ensures)

pub noted-requires-in-Unhandled-clause-note : goal.noted-requires-in-Unhandled-clause-note
noted-requires-in-Unhandled-clause-note g c = (task.Unhandled, item.Unhandled, refl, c.none.ensures)

pub noted-requires-in-Exit-clause-note : goal.noted-requires-in-Exit-clause-note
noted-requires-in-Exit-clause-note g c = ((task.Exit c.in-Exit.state), (item.Exit c.in-Exit.state), refl, c.exit.ensures)

pub noted-requires-in-Enter-clause-note : goal.noted-requires-in-Enter-clause-note
noted-requires-in-Enter-clause-note g c = ((task.Enter c.in-Enter.state), (item.Enter c.in-Enter.state), refl, c.enter.ensures)

pub noted-requires-in-Init-clause-note : goal.noted-requires-in-Init-clause-note
noted-requires-in-Init-clause-note g c = ((task.Init c.in-Init.state), (item.Init c.in-Init.state), refl, c.init.ensures)

pub noted-requires-in-Done-clause-note : goal.noted-requires-in-Done-clause-note
noted-requires-in-Done-clause-note g c = (task.Done, item.Done, refl, c.done.ensures)

pub returns-in-Raise : goal.returns-in-Raise
returns-in-Raise g c = rw (c.in-Raise.is, c.requires.none) (c.raise.ensures (moment_of_work c.args.work.now))

pub returns-in-Restore : goal.returns-in-Restore
returns-in-Restore g c = rw (c.in-Restore.is, c.requires.none) (c.restore.ensures (moment_of_work c.args.work.now))

pub returns-in-Begin : goal.returns-in-Begin
returns-in-Begin g c =
    rw (c.in-Begin.is, c.requires.none) (c.noted.ensures (moment_of_work c.args.work.now) task.Begin item.Begin c.args.ceiling.now c.args.lasting.now refl c.begin.ensures)

pub returns-in-Run : goal.returns-in-Run
returns-in-Run g c =
    rw (c.in-Run.is, c.requires.none) (c.noted-in-Run.ensures (moment_of_work c.args.work.now) (task.Run c.in-Run.state c.in-Run.place) (item.Run c.in-Run.state c.in-Run.place) c.args.ceiling.now c.args.lasting.now refl c.run.ensures)

pub returns-in-Unhandled : goal.returns-in-Unhandled
returns-in-Unhandled g c =
    rw (c.in-Unhandled.is, c.requires.none) (c.noted-in-Unhandled.ensures (moment_of_work c.args.work.now) task.Unhandled item.Unhandled c.args.ceiling.now c.args.lasting.now refl c.none.ensures)

pub returns-in-Exit : goal.returns-in-Exit
returns-in-Exit g c =
    rw (c.in-Exit.is, c.requires.none) (c.noted-in-Exit.ensures (moment_of_work c.args.work.now) (task.Exit c.in-Exit.state) (item.Exit c.in-Exit.state) c.args.ceiling.now c.args.lasting.now refl c.exit.ensures)

pub returns-in-Enter : goal.returns-in-Enter
returns-in-Enter g c =
    rw (c.in-Enter.is, c.requires.none) (c.noted-in-Enter.ensures (moment_of_work c.args.work.now) (task.Enter c.in-Enter.state) (item.Enter c.in-Enter.state) c.args.ceiling.now c.args.lasting.now refl c.enter.ensures)

pub returns-in-Init : goal.returns-in-Init
returns-in-Init g c =
    rw (c.in-Init.is, c.requires.none) (c.noted-in-Init.ensures (moment_of_work c.args.work.now) (task.Init c.in-Init.state) (item.Init c.in-Init.state) c.args.ceiling.now c.args.lasting.now refl c.init.ensures)

pub returns-in-Done : goal.returns-in-Done
returns-in-Done g c =
    rw (c.in-Done.is, c.requires.none) (c.noted-in-Done.ensures (moment_of_work c.args.work.now) task.Done item.Done c.args.ceiling.now c.args.lasting.now refl c.done.ensures)
