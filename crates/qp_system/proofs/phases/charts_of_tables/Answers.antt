use Rattle.std.proofs.Common.{◌≤◌, length, map}
use Rattle.std.proofs.lemmas.List.{length-map}
use Rattle.std.proofs.lemmas.Result.{err_from_is_err_and}
use Rattle.qp_system.specs.Later.{later_of}
use Rattle.qp_system.specs.Within.{signal_name, object_name, outer_names}
use Rattle.qp_system.proofs.PassLemmas.{first-head, first-tail, readable-all}
use Rattle.qp_chart_names.proofs.FaultLemmas.{none-next, none-last}
use Rattle.qp_system.proofs.phases.charts_of_tables.Goals as goal

pub checked_charts-requires-clause-readable : goal.checked_charts-requires-clause-readable
checked_charts-requires-clause-readable c =
    let signals : length (map signal_name c.args.signals.now) ≤ 200 = rw (length-map c.args.signals.now signal_name) c.requires.signals in
    let objects : length (map object_name c.args.objects.now) ≤ 32 = rw (length-map c.args.objects.now object_name) c.requires.objects in
    rw c.in_ok-names.ensures (readable-all (outer_names c.args.signals.now c.args.objects.now) c.args.charts.now signals objects c.requires.each)

pub returns-in_err-tables_pass-clause-passes : goal.returns-in_err-tables_pass-clause-passes
unfolding later_of
returns-in_err-tables_pass-clause-passes c =
    let p = err_from_is_err_and c.from_residual.result c.from_residual.ensures.1 in
    rw (p.1, p.2) (first-head _ _ _ c.in_err-tables_pass.ensures)

pub returns-in_err-checked-clause-passes : goal.returns-in_err-checked-clause-passes
unfolding later_of
returns-in_err-checked-clause-passes c =
    let p = err_from_is_err_and c.from_residual-in_err-checked.result c.from_residual-in_err-checked.ensures.1 in
    let charts = rw c.in_ok-names.ensures at c.in_err-checked.ensures.passes in
    rw (p.1, p.2) (first-tail _ _ _ c.in_ok-tables_pass.ensures (first-head _ _ _ charts))

pub returns-in_err-pools_pass-clause-passes : goal.returns-in_err-pools_pass-clause-passes
unfolding later_of
returns-in_err-pools_pass-clause-passes c =
    let p = err_from_is_err_and c.from_residual-in_err-pools_pass.result c.from_residual-in_err-pools_pass.ensures.1 in
    let charts = rw c.in_ok-names.ensures at c.in_ok-checked.ensures.passes in
    rw (p.1, p.2) (first-tail _ _ _ c.in_ok-tables_pass.ensures (first-tail _ _ _ charts (first-head _ _ _ c.in_err-pools_pass.ensures)))

pub returns-clause-passes : goal.returns-clause-passes
unfolding later_of
returns-clause-passes c =
    let charts = rw c.in_ok-names.ensures at c.in_ok-checked.ensures.passes in
    none-next _ _ c.in_ok-tables_pass.ensures (none-next _ _ charts (none-next _ _ c.in_ok-pools_pass.ensures none-last))

pub returns-clause-made : goal.returns-clause-made
returns-clause-made c = rw c.in_ok-names.ensures at c.in_ok-checked.ensures.made
