use Rattle.qp_chart_text.specs.Terms.{event_of_tree}
use Rattle.std.proofs.lemmas.Bool.{and_parts}
use Rattle.qp_chart_names.proofs.TestLemmas.{All-sound}
use Rattle.qp_chart.proofs.resolve.event.Goals as goal

pub declared_signal-signal-requires : goal.declared_signal-signal-requires
unfolding event_of_tree
declared_signal-signal-requires c = (and_parts _ _ c.requires.known).0

pub bounds-requires : goal.bounds-requires
unfolding event_of_tree
bounds-requires c =
    rw c.as_slice.ensures (All-sound c.args.scope.now.chart.now c.args.params c.args.event.now.pars (and_parts _ _ c.requires.known).1 (and_parts _ _ c.requires.fits).1)

pub returns-clause-ok : goal.returns-clause-ok
unfolding event_of_tree
returns-clause-ok c = record { signal_is = c.declared_signal-signal.ensures; pars_are = rw c.as_slice.ensures at c.in_ok-pars.ensures.ok }
