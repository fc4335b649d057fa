use Rattle.std.proofs.Common.{map, ap}
use Rattle.qp_model.specs.declared.journals.Journal.{Journal}
use Rattle.qp_shared.specs.Lane.{lane_view}
use Rattle.qp_port_runs.proofs.Stopped.{all-caused, loud, not-quiet}
use Rattle.qp_port_runs.proofs.sealing.seal.Goals as goal

pub unreachable-requires : goal.unreachable-requires
unreachable-requires c =
    let never =
    not-quiet c.args.shared.now.sys.now c.args.kernel c.args.budget (map lane_view c.args.lanes.items) _ c.in_ok-sealed.ensures.seals (all-caused c.args.lanes.items) c.requires.fed (c.requires.cause c.if-not-done.true) in
    absurd (loud _ _ (ap (λ (j : Journal). j.end) c.journal.ensures.is) never c.if-journal-eq-QUIET.true)
