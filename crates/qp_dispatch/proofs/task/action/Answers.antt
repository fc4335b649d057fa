use Rattle.qp_dispatch.specs.Lasts.{moment_of_work}
use Rattle.qp_dispatch.proofs.PartLemmas.{asserts-act, goes-act}
use Rattle.qp_dispatch.proofs.task.action.Goals as goal

pub returns-in-Done : goal.returns-in-Done
returns-in-Done g c =
    let lane = g.O.Ops.lane in
    rw c.requires.none
    (goes-act c.args.me c.args.ceiling.now (moment_of_work c.args.work.now) c.args.plain.now c.args.lasting.now c.act.new.lasting (lane c.args.ops.now) (lane c.act.new.ops) c.in-Done.ensures)

pub returns-in-Asserted : goal.returns-in-Asserted
returns-in-Asserted g c =
    let lane = g.O.Ops.lane in
    rw c.requires.none
    (asserts-act c.args.me c.in-Asserted.code (moment_of_work c.args.work.now) c.args.plain.now c.args.lasting.now c.act.new.lasting (lane c.args.ops.now) (lane c.act.new.ops) c.in-Asserted.ensures)
