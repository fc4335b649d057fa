use Rattle.std.proofs.Common.{◌∙◌, ap}
use Rattle.qp_model.specs.declared.systems.System.{System}
use Rattle.qp_model.specs.Lawful.{deferred_of}
use Rattle.qp_check_lanes.proofs.DeferredLemmas.{deferred-put, deferred-end}
use Rattle.qp_check_lanes.proofs.deferred_entries.deferred.Goals as goal

pub loop-d-preserved : goal.loop-d-preserved
loop-d-preserved c =
    deferred-put c.args.sys.now c.args.j.now c.deref-d-items.result.now c.loop-d.d-index c.d-item.result c.loop-d-test.true c.d-item.is
    c.loop-d.all.items c.put_all.new.all.items (deferred_of c.args.sys.now c.args.j.now c.deref-d-items.result.now) c.in_ok-deferred_by.field-0
    c.in_ok-put_all.ensures c.in_ok-deferred_by.ensures c.loop-d.invariant

pub returns : goal.returns
returns c =
    deferred-end c.args.sys.now c.args.j.now c.deref-d-items.result.now c.loop-d.d-index c.loop-d.all.items (deferred_of c.args.sys.now c.args.j.now c.deref-d-items.result.now)
    c.loop-d-test.false c.loop-d.invariant
    ∙ ap (deferred_of c.args.sys.now c.args.j.now) (c.deref-d-items.ensures.value ∙ ap (λ (s : System). s.objects) c.sys.view_is)
