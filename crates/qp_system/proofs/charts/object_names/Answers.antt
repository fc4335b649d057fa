use Rattle.std.proofs.Common.{◌∙◌, ap, map}
use Rattle.std.proofs.lemmas.List.{take_all}
use Rattle.qp_system.specs.Within.{object_name}
use Rattle.qp_system.proofs.PassLemmas.{map-more}
use Rattle.qp_system.proofs.charts.object_names.Goals as goal

pub loop-object-init : goal.loop-object-init
loop-object-init c = c.new-items.ensures.items

pub loop-object-preserved : goal.loop-object-preserved
loop-object-preserved c =
    c.in_ok-push.ensures.items
    ∙ map-more object_name c.args.objects.now c.loop-object.items.items c.loop-object.object-index c.object-item.result c.loop-object-test.true c.object-item.is c.loop-object.invariant

pub returns : goal.returns
returns c = c.loop-object.invariant ∙ ap (map object_name) (take_all c.loop-object.object-index c.args.objects.now c.loop-object-test.false)
