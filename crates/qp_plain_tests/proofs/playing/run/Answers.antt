use Rattle.std.proofs.Common.{subst, sym}
use Rattle.qp_kernel.specs.Happenings.{IsInOrder}
use Rattle.qp_kernel_runs.specs.SimView.{sim_view}
use Rattle.qp_plain_tests.proofs.playing.run.Goals as goal

pub kernel_turn-turn-requires-clause-order : goal.kernel_turn-turn-requires-clause-order
kernel_turn-turn-requires-clause-order g c = record {
  order = λ e. subst (λ k. IsInOrder c.args.sys.now k (sim_view c.start.new.ops)) (sym c.new-kernel.ensures.looks) c.in-Done.ensures.goes.order;
  no_stim = c.in-Done.ensures.goes.no_stim;
}
