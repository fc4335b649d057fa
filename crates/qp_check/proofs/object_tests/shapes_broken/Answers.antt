use Rattle.std.proofs.Common.{◌∙◌, ap, sym}
use Rattle.qp_model.specs.declared.systems.System.{System}
use Rattle.qp_model.specs.Lawful.{ShapesHold}
use Rattle.qp_check.proofs.FindLemmas.{from-broken, from-last, from-next}
use Rattle.qp_check_shapes.proofs.GroupsDecideLemmas.{denied, decided}
use Rattle.qp_check.proofs.object_tests.shapes_broken.Goals as goal

pub returns-then-not-branch : goal.returns-then-not-branch
returns-then-not-branch c =
    from-broken 15 (ShapesHold c.args.sys.now c.args.j.now) c.deref-d-items.result.now c.loop-i.i c.d-item.result c.loop-i-test.true c.d-item.is c.loop-i.invariant
    (denied (ShapesHold c.args.sys.now c.args.j.now c.d-item.result) c.in_ok-has_its_shapes.field-0 c.in_ok-has_its_shapes.ensures c.if-not-branch.true)
    c.at_object.result (sym c.at_object.ensures.number) c.at_object.ensures.place c.args.sys.now.objects (c.deref-d-items.ensures.value ∙ ap (λ (s : System). s.objects) c.sys.view_is)

pub loop-i-preserved : goal.loop-i-preserved
loop-i-preserved c =
    from-next 15 (ShapesHold c.args.sys.now c.args.j.now) c.deref-d-items.result.now c.loop-i.i c.d-item.result c.loop-i-test.true c.d-item.is c.loop-i.invariant
    (decided (ShapesHold c.args.sys.now c.args.j.now c.d-item.result) c.in_ok-has_its_shapes.field-0 c.in_ok-has_its_shapes.ensures c.if-not-branch.false)

pub returns : goal.returns
returns c =
    from-last 15 (ShapesHold c.args.sys.now c.args.j.now) c.deref-d-items.result.now c.loop-i.i c.loop-i-test.false c.loop-i.invariant c.args.sys.now.objects
    (c.deref-d-items.ensures.value ∙ ap (λ (s : System). s.objects) c.sys.view_is)
