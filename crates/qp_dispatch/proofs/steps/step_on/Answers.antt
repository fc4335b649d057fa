use Rattle.qp_dispatch.specs.Runs.{object_setting}
use Rattle.qp_dispatch.proofs.ResumeLemmas.{resumes-taken}
use Rattle.qp_dispatch.proofs.steps.step_on.Goals as goal

pub returns-in-Taken : goal.returns-in-Taken
returns-in-Taken g c =
    let lane = g.O.Ops.lane in
    let t = c.take_up-going.ensures in
    resumes-taken (object_setting c.args.home.now) c.args.ceiling.now c.go.new.ceiling c.args.lasting.now c.go.new.lasting c.args.stage.now c.go.new.stage c.in-Taken.e c.take_up-going.result (lane c.args.ops.now)
    (lane c.take_up-going.new.ops) (lane c.go.new.ops) c.go.result c.in-Taken.ensures.value t.stays t.event t.entry t.none t.left c.go.ensures
