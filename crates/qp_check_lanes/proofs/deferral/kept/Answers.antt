use Rattle.std.proofs.Common.{◌∙◌, [], sym, ap}
use Rattle.qp_model.specs.History.{lane_items}
use Rattle.qp_check_lanes.specs.Deferral.{kept_on}
use Rattle.qp_check_lanes.proofs.DeferredLemmas.{kept_on-told, kept_on-kept, kept_on-refused, kept_on-end}
use Rattle.qp_check_lanes.proofs.deferral.kept.Goals as goal

pub loop-r-init : goal.loop-r-init
loop-r-init c = ap (λ k. kept_on c.args.room c.args.o k (lane_items c.args.lane.now)) c.none-kept.ensures

pub returns-then-not-branch : goal.returns-then-not-branch
returns-then-not-branch c w =
    sym (kept_on-refused c.args.room c.args.o c.loop-r.kept c.args.lane.now c.loop-r.r-index c.r-item.result c.loop-r-test.true c.r-item.is
    c.keep_own.new.self c.in_ok-keep_own.field-0 c.in_ok-keep_own.ensures c.if-not-branch.true)
    ∙ c.loop-r.invariant ∙ kept_on-told w c.args.room c.args.o 0 [] (lane_items c.args.lane.now)

pub loop-r-preserved : goal.loop-r-preserved
loop-r-preserved c =
    sym (kept_on-kept c.args.room c.args.o c.loop-r.kept c.args.lane.now c.loop-r.r-index c.r-item.result c.loop-r-test.true c.r-item.is
    c.keep_own.new.self c.in_ok-keep_own.field-0 c.in_ok-keep_own.ensures c.if-not-branch.false)
    ∙ c.loop-r.invariant

pub returns : goal.returns
returns c w =
    sym (kept_on-end c.args.room c.args.o c.loop-r.kept c.args.lane.now c.loop-r.r-index c.loop-r-test.false)
    ∙ c.loop-r.invariant ∙ kept_on-told w c.args.room c.args.o 0 [] (lane_items c.args.lane.now)
