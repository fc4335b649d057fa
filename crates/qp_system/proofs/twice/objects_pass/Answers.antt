use Rattle.std.proofs.lemmas.Result.{err_from_is_err_and}
use Rattle.qp_system.specs.Between.{object_fault}
use Rattle.qp_system.proofs.PassLemmas.{clear-none, clear-one, clear-all, first-at}
use Rattle.qp_system.proofs.twice.objects_pass.Goals as goal

pub loop-i-init : goal.loop-i-init
loop-i-init c = clear-none object_fault c.args.objects.now

pub returns-in_err-object_passes : goal.returns-in_err-object_passes
returns-in_err-object_passes c =
    let p = err_from_is_err_and c.from_residual.result c.from_residual.ensures.1 in
    rw (p.1, p.2)
    (first-at object_fault c.args.objects.now c.loop-i.i c.index-objects-i.result _ c.loop-i.invariant c.loop-i-test.true c.index-objects-i.is
    c.in_err-object_passes.ensures)

pub loop-i-preserved : goal.loop-i-preserved
loop-i-preserved c =
    clear-one object_fault c.args.objects.now c.loop-i.i c.index-objects-i.result c.loop-i.invariant c.loop-i-test.true c.index-objects-i.is
    c.in_ok-object_passes.ensures

pub returns : goal.returns
returns c = clear-all object_fault c.args.objects.now c.loop-i.i c.loop-i.invariant c.loop-i-test.false
