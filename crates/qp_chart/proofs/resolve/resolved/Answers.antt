use Rattle.qp_chart_text.specs.Terms.{command_of}
use Rattle.qp_chart_names.specs.ActionFaults.{command_known, command_in_range, command_fits}
use Rattle.std.proofs.lemmas.Bool.{and_parts}
use Rattle.qp_chart_names.proofs.TestLemmas.{All-allowed}
use Rattle.qp_chart.proofs.resolve.resolved.Goals as goal

pub resolved_plains-requires : goal.resolved_plains-requires
unfolding command_of command_known command_in_range command_fits
resolved_plains-requires c =
    let s = c.args.scope.now in
    let known = rw c.in-Locked.is at c.requires.known in
    let in_range = rw c.in-Locked.is at c.requires.in_range in
    let fits = rw c.in-Locked.is at c.requires.fits in
    rw c.as_slice.ensures (All-allowed s.names.now s.chart.now c.args.inside c.in-Locked.acts known (and_parts _ _ in_range).1 fits)
