use Rattle.std.proofs.lemmas.Result.{err_from_is_err_and}
use Rattle.qp_system.specs.Between.{between_fault}
use Rattle.qp_system.proofs.PassLemmas.{first-head, first-tail, passes-tail, passes-last}
use Rattle.qp_system.proofs.between.tables_pass.Goals as goal

pub returns-in_err-sizes_ascend : goal.returns-in_err-sizes_ascend
unfolding between_fault
returns-in_err-sizes_ascend c =
    let p = err_from_is_err_and c.from_residual.result c.from_residual.ensures.1 in
    rw (p.1, p.2) (first-head _ _ _ c.in_err-sizes_ascend.ensures)

pub returns-in_err-signals_pass : goal.returns-in_err-signals_pass
unfolding between_fault
returns-in_err-signals_pass c =
    let p = err_from_is_err_and c.from_residual-in_err-signals_pass.result c.from_residual-in_err-signals_pass.ensures.1 in
    rw (p.1, p.2) (first-tail _ _ _ c.in_ok-sizes_ascend.ensures (first-head _ _ _ c.in_err-signals_pass.ensures))

pub returns-in_err-charts_pass : goal.returns-in_err-charts_pass
unfolding between_fault
returns-in_err-charts_pass c =
    let p = err_from_is_err_and c.from_residual-in_err-charts_pass.result c.from_residual-in_err-charts_pass.ensures.1 in
    rw (p.1, p.2) (first-tail _ _ _ c.in_ok-sizes_ascend.ensures (first-tail _ _ _ c.in_ok-signals_pass.ensures (first-head _ _ _ c.in_err-charts_pass.ensures)))

pub returns-in_err-objects_pass : goal.returns-in_err-objects_pass
unfolding between_fault
returns-in_err-objects_pass c =
    let p = err_from_is_err_and c.from_residual-in_err-objects_pass.result c.from_residual-in_err-objects_pass.ensures.1 in
    rw (p.1, p.2) (first-tail _ _ _ c.in_ok-sizes_ascend.ensures (first-tail _ _ _ c.in_ok-signals_pass.ensures (first-tail _ _ _ c.in_ok-charts_pass.ensures (first-head _ _ _ c.in_err-objects_pass.ensures))))

pub returns : goal.returns
unfolding between_fault
returns c = passes-tail _ _ _ c.in_ok-sizes_ascend.ensures (passes-tail _ _ _ c.in_ok-signals_pass.ensures (passes-tail _ _ _ c.in_ok-charts_pass.ensures (passes-tail _ _ _ c.in_ok-objects_pass.ensures (passes-last _ _ c.objects_placed.ensures))))
