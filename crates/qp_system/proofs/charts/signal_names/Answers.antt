use Rattle.std.proofs.Common.{◌∙◌, ap, map}
use Rattle.std.proofs.lemmas.List.{take_all}
use Rattle.qp_system.specs.Within.{signal_name}
use Rattle.qp_system.proofs.PassLemmas.{map-more}
use Rattle.qp_system.proofs.charts.signal_names.Goals as goal

pub loop-signal-init : goal.loop-signal-init
loop-signal-init c = c.new-items.ensures.items

pub loop-signal-preserved : goal.loop-signal-preserved
loop-signal-preserved c =
    c.in_ok-push.ensures.items
    ∙ map-more signal_name c.args.signals.now c.loop-signal.items.items c.loop-signal.signal-index c.signal-item.result c.loop-signal-test.true c.signal-item.is c.loop-signal.invariant

pub returns : goal.returns
returns c = c.loop-signal.invariant ∙ ap (map signal_name) (take_all c.loop-signal.signal-index c.args.signals.now c.loop-signal-test.false)
