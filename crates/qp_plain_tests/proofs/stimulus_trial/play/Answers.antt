use Rattle.qp_plain_tests.proofs.StimulusLanes.{base-happens}
use Rattle.qp_plain_tests.proofs.stimulus_trial.play.Goals as goal

pub loop-s-preserved : goal.loop-s-preserved
loop-s-preserved g c = record {
  base =
      base-happens c.args.sys.now c.s-item.result c.saturating_add-place.result 0 (g.O.Ops.lane c.loop-s.ops) (g.O.Ops.lane c.stimulus.new.ops)
      c.in-Done.ensures.stimulates c.loop-s.invariant.base;
}
