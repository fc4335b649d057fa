use Rattle.std.proofs.Common.{None, [], inl, subst, sym}
use Rattle.qp_model.specs.Pieces.{records_in}
use Rattle.qp_calls.specs.LaneView.{Grows}
use Rattle.qp_calls.specs.Deferring.{StandAll}
use Rattle.qp_dispatch.specs.declared.steps.Position.TheVariants as standing
use Rattle.qp_dispatch.specs.Runs.{object_setting}
use Rattle.qp_dispatch.specs.Resume.{held_in}
use Rattle.qp_dispatch.proofs.ResumeLemmas.{cut-begins, cut-stand, finish-may, halted, over-begins, over-stand, released-is, to-assert, to-end, to-point}
use Rattle.qp_dispatch.proofs.steps.go.Goals as goal

pub finish-requires : goal.finish-requires
finish-requires g c =
    let lane = g.O.Ops.lane in
    finish-may (object_setting c.args.home.now) c.args.ceiling.now c.run.new.ceiling c.args.lasting.now c.run.new.lasting c.args.going (lane c.args.ops.now) (lane c.run.new.ops) c.requires.lane c.requires.going
    [] None [] c.in-Over.ensures

pub returns-in-Point : goal.returns-in-Point
returns-in-Point g c =
    let lane = g.O.Ops.lane in
    let r = c.in-Point.ensures in
    to-point (object_setting c.args.home.now) c.args.ceiling.now c.run.new.ceiling c.args.lasting.now c.run.new.lasting c.args.going (lane c.args.ops.now) (lane c.run.new.ops) c.requires.lane c.requires.going
    c.run.new.left r.1

pub returns-in-Ok : goal.returns-in-Ok
returns-in-Ok g c =
    let lane = g.O.Ops.lane in
    let hand = c.requires.going.hand in (
      c.requires.between,
      to-end (object_setting c.args.home.now) c.args.ceiling.now c.run.new.ceiling c.args.lasting.now c.run.new.lasting c.args.going (lane c.args.ops.now) (lane c.run.new.ops) c.requires.lane c.requires.going hand
          (lane c.finish.new.ops) c.in-Over.ensures c.requires.going.is
          (released-is c.args.going.work.entry hand (lane c.run.new.ops) (lane c.finish.new.ops) c.requires.going.is c.in-Ok.ensures),
    )

pub returns-in-Err : goal.returns-in-Err
returns-in-Err g c =
    let lane = g.O.Ops.lane in
    let r = c.in-Over.ensures in
    let home = object_setting c.args.home.now in
    let refused = c.in-Err.ensures in
    rw c.requires.between
    (halted home c.args.ceiling.now c.run.new.ceiling c.args.lasting.now c.run.new.lasting (standing.Within c.args.going) standing.Between (records_in r.ps) (lane c.args.ops.now) (lane c.finish.new.ops)
    (lane c.give_up.new.ops) c.give_up.result (subst (λ x. Grows (records_in r.ps) (lane c.args.ops.now) x) (sym refused.0) r.grows)
    (over-begins home c.args.ceiling.now c.run.new.ceiling c.args.lasting.now c.run.new.lasting c.args.going (lane c.args.ops.now) (lane c.run.new.ops) c.requires.lane c.requires.going r)
    (subst (λ x. StandAll (held_in c.run.new.lasting standing.Between) x) (sym refused.0)
    (over-stand home c.args.ceiling.now c.run.new.ceiling c.args.lasting.now c.run.new.lasting c.args.going (lane c.args.ops.now) (lane c.run.new.ops) c.requires.lane c.requires.going r))
    c.give_up.ensures)

pub returns-in-Asserted : goal.returns-in-Asserted
returns-in-Asserted g c =
    let lane = g.O.Ops.lane in
    inl
    (to-assert (object_setting c.args.home.now) c.args.ceiling.now c.run.new.ceiling c.args.lasting.now c.run.new.lasting c.args.going (lane c.args.ops.now) (lane c.run.new.ops) c.requires.lane c.requires.going
    c.run.new.left c.in-Asserted.code (lane c.stop.new.self) c.in-Asserted.ensures c.stop.ensures)

pub returns-in-Cut : goal.returns-in-Cut
returns-in-Cut g c =
    let lane = g.O.Ops.lane in
    let home = object_setting c.args.home.now in
    let r = c.in-Cut.ensures in
    halted home c.args.ceiling.now c.run.new.ceiling c.args.lasting.now c.run.new.lasting (standing.Within c.args.going)
    (standing.Within (record { work = c.args.going.work; left = c.run.new.left; leaf = c.args.going.leaf })) (records_in r.0.ps) (lane c.args.ops.now) (lane c.run.new.ops) (lane c.give_up-in-Cut.new.ops)
    c.give_up-in-Cut.result r.0.grows
    (cut-begins home c.args.ceiling.now c.run.new.ceiling c.args.lasting.now c.run.new.lasting c.args.going (lane c.args.ops.now) (lane c.run.new.ops) c.requires.lane c.requires.going c.run.new.left.under r.0)
    (cut-stand home c.args.ceiling.now c.run.new.ceiling c.args.lasting.now c.run.new.lasting c.args.going (lane c.args.ops.now) (lane c.run.new.ops) c.requires.lane c.requires.going c.run.new.left r.0)
    c.give_up-in-Cut.ensures
