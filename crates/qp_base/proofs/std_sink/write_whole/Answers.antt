use Rattle.std.proofs.Common.{arith}
use Rattle.qp_base.proofs.SinkLemmas.{Appends-keep, Appends-next, length-rest}
use Rattle.qp_base.proofs.std_sink.write_whole.Goals as goal
use Rattle.qp_base.proofs.std_sink.write_whole.Goals.{in-Ok, in-Err}

pub loop-preserved : goal.loop-preserved
loop-preserved g c =
    elim c.match-write.branch [
      | in-Ok w ↦ rw w.done-is record {
        within = omega (arith, w.in-Ok.ensures.bound, length-rest c.args.bytes.now c.loop.done);
        so_far = Appends-next _ _ _ _ _ _ w.in-Ok.ensures.bound c.loop.invariant.so_far w.in-Ok.ensures.bytes;
      }
      | in-Err w ↦ rw w.done-is record {
        within = omega arith;
        so_far = Appends-keep _ _ _ _ c.loop.invariant.so_far (rw w.in-Err.is at c.write.ensures.bytes);
      }
    ]
