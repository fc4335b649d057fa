use Rattle.std.proofs.Common.{◌∙◌, ◌++◌, ◌∷◌, [], ap, sym, map, take}
use Rattle.qp_model.specs.declared.systems.ObjectDef.{ObjectDef}
use Rattle.qp_model.specs.Home.{by_object}
use Rattle.qp_model.specs.Lawful.{facts_of}
use Rattle.qp_check_lanes.proofs.WalkLemmas.{front_grows}
use Rattle.qp_check.proofs.object_tests.all_records.Goals as goal

pub loop-d-preserved : goal.loop-d-preserved
loop-d-preserved c =
    let f = λ (d : ObjectDef). by_object (facts_of c.args.sys.now c.args.j.now) c.args.j.now d.priority in
    let before = take c.loop-d.d-index (map f c.deref-d-items.result.now) in
    c.in_ok-push.ensures.items
    ∙ ap (λ xs. xs ++ c.in_ok-object_records.field-0 ∷ []) c.loop-d.invariant
    ∙ ap (λ r. before ++ r ∷ []) c.in_ok-object_records.ensures
    ∙ sym (front_grows f c.deref-d-items.result.now c.loop-d.d-index c.d-item.result c.loop-d-test.true c.d-item.is)
