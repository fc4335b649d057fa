use Rattle.std.proofs.Common.{◌≡◌, ◌+◌, ◌-◌, List, ℕ, take, ap, ◌∙◌, arith}
use Rattle.std.proofs.lemmas.List.{take_all}
use Rattle.std.proofs.lemmas.Result.{err_from_is_err_and}
use Rattle.qp_chart_names.specs.declared.raw.RawRow.{RawRow}
use Rattle.qp_chart_names.specs.declared.raw.RawChart.{RawChart}
use Rattle.qp_chart_names.specs.declared.raw.Names.{Names}
use Rattle.qp_chart.specs.ChartFaults.{row_fault, row_fault_at, rows_fault, row_place}
use Rattle.qp_chart.specs.ChartOf.{IsRowOf}
use Rattle.qp_chart_names.proofs.FaultLemmas.{passed-none, passed-one, passed-all, found-at, Corresponds-none, Corresponds-more}
use Rattle.qp_chart.proofs.state_check.checked_rows.Goals as goal

row_at-is : (names : Names) (chart : RawChart) (k : ℕ) (rows : List RawRow) (i : ℕ) (row : RawRow) → row_fault_at names chart k rows (i + 1) row ≡ row_fault names chart (row_place k (i + 1)) (take i rows) row
unfolding row_fault_at
row_at-is names chart k rows i row = let same : i + 1 - 1 ≡ i = omega arith in ap (λ n. row_fault names chart (row_place k (i + 1)) (take n rows) row) same

pub loop-i-init : goal.loop-i-init
loop-i-init c = record { passed = passed-none _ _; made = rw c.new-rows.ensures.items (Corresponds-none _) }

pub returns-in_err-row-clause-fault : goal.returns-in_err-row-clause-fault
unfolding rows_fault
returns-in_err-row-clause-fault c =
    let s = c.args.scope.now in
    let p = err_from_is_err_and c.from_residual.result c.from_residual.ensures.1 in
    rw (p.1, p.2)
    (found-at (row_fault_at s.names.now s.chart.now c.args.place c.args.raws.now) c.args.raws.now c.loop-i.i c.index-raws-i.result _
    c.loop-i.invariant.passed c.loop-i-test.true c.index-raws-i.is
    (rw (row_at-is s.names.now s.chart.now c.args.place c.args.raws.now c.loop-i.i c.index-raws-i.result) c.in_err-row.ensures.fault))

pub loop-i-preserved : goal.loop-i-preserved
loop-i-preserved c =
    let s = c.args.scope.now in
    record {
      passed = passed-one (row_fault_at s.names.now s.chart.now c.args.place c.args.raws.now) c.args.raws.now c.loop-i.i c.index-raws-i.result
          c.loop-i.invariant.passed c.loop-i-test.true c.index-raws-i.is
          (row_at-is s.names.now s.chart.now c.args.place c.args.raws.now c.loop-i.i c.index-raws-i.result ∙ c.in_ok-row.ensures.ok.0);
      made = rw c.in_ok-push.ensures.items
          (Corresponds-more (IsRowOf s.names.now s.chart.now) c.args.raws.now c.loop-i.rows.items c.loop-i.i c.index-raws-i.result _
          c.loop-i-test.true c.index-raws-i.is c.loop-i.invariant.made c.in_ok-row.ensures.ok.1);
    }

pub returns-clause-ok : goal.returns-clause-ok
unfolding rows_fault
returns-clause-ok c =
    let s = c.args.scope.now in (
      passed-all (row_fault_at s.names.now s.chart.now c.args.place c.args.raws.now) c.args.raws.now c.loop-i.i c.loop-i.invariant.passed c.loop-i-test.false,
      rw (take_all c.loop-i.i c.args.raws.now c.loop-i-test.false) at c.loop-i.invariant.made,
    )
