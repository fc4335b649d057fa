use Rattle.std.proofs.Common.{◌∙◌, get_or, set, ap, sym}
use Rattle.qp_model.specs.Lawful.{dispatched}
use Rattle.qp_check.proofs.ObjectTestLemmas.{map-written}
use Rattle.qp_check.proofs.object_tests.drop_all_marks.Goals as goal

pub loop-records-preserved : goal.loop-records-preserved
loop-records-preserved c =
    let all = c.args.all.now in
    let i = c.loop-records.records-index in
    ap (λ xs. set xs i c.drop_marks.new.self) c.loop-records.invariant
    ∙ map-written dispatched all i c.records-item.result c.drop_marks.new.self c.loop-records-test.true (c.records-item.is ∙ ap (λ xs. get_or xs i c.records-item.result) c.loop-records.invariant) (c.drop_marks.ensures ∙ ap dispatched (sym c.records-item.is))
