use Rattle.qp_core.proofs.ApplyLemmas.{refused, reached-more}
use Rattle.qp_core.proofs.runs.run.Goals as goal

pub returns-then-not-made : goal.returns-then-not-made
returns-then-not-made c = refused c.args.sys.now c.args.lanes c.args.schedule.now c.loop-place.place c.index-schedule-place.result c.loop-place-test.true c.index-schedule-place.is c.loop-place.s c.apply.new.s c.apply.result c.in-Ok-apply.made
    c.loop-place.invariant c.apply.ensures.one c.in-Ok-apply.is c.if-not-made.true

pub loop-place-preserved : goal.loop-place-preserved
loop-place-preserved c = reached-more c.args.sys.now c.args.lanes c.args.schedule.now c.loop-place.place c.index-schedule-place.result c.loop-place-test.true c.index-schedule-place.is c.loop-place.s c.apply.new.s c.apply.result c.in-Ok-apply.made
    c.loop-place.invariant c.apply.ensures.one c.in-Ok-apply.is c.apply.ensures.kept c.if-not-made.false
