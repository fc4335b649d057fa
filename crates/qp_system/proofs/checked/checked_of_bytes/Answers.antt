use Rattle.std.proofs.Common.{ℕ, List, Ok, inl, inr}
use Rattle.std.proofs.lemmas.Result.{err_from_is_err_and}
use Rattle.qp_system_tables.specs.declared.raw.RawSystem.{RawSystem}
use Rattle.qp_system.specs.Checked.{HasLater}
use Rattle.qp_system_tables.specs.Document.{TreeGives}
use Rattle.qp_system_tables.specs.Few.{IsFew}
use Rattle.qp_system_tables.proofs.FewLemmas.{raw-is_few}
use Rattle.qp_system.proofs.checked.checked_of_bytes.Goals as goal

read-is_few : (bytes : List ℕ) (raw : RawSystem) → TreeGives bytes (Ok raw) → IsFew raw
unfolding TreeGives
read-is_few bytes raw h = raw-is_few h.0 raw h.3

pub charts_of-requires : goal.charts_of-requires
charts_of-requires c = read-is_few c.args.bytes.now c.in_ok-raw.raw c.in_ok-raw.ensures

pub returns-in_err-raw-clause-fault : goal.returns-in_err-raw-clause-fault
returns-in_err-raw-clause-fault c =
    let p = err_from_is_err_and c.from_residual.result c.from_residual.ensures.1 in
    rw (p.1, p.2) (inl c.in_err-raw.ensures)

pub returns-in_err-charts-clause-fault : goal.returns-in_err-charts-clause-fault
unfolding HasLater
returns-in_err-charts-clause-fault c =
    let p = err_from_is_err_and c.from_residual-in_err-charts.result c.from_residual-in_err-charts.ensures.1 in
    rw (p.1, p.2) (inr (c.in_ok-raw.raw, c.in_ok-raw.ensures, c.in_err-charts.ensures.passes))

pub returns-clause-ok : goal.returns-clause-ok
returns-clause-ok c = record { read = c.in_ok-raw.ensures; passed = c.in_ok-charts.ensures.passes; made = c.in_ok-charts.ensures.made }
