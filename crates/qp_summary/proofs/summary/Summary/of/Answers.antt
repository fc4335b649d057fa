use Rattle.qp_summary.proofs.SummaryLemmas.{summary-lines}
use Rattle.qp_summary.proofs.summary.Summary.of.Goals as goal

pub returns : goal.returns
returns c =
    summary-lines c.args.sys.now c.args.j.now c.in_ok-end_line.field-0 c.in_ok-all_lines.field-0 c.in_ok-pool_lines.field-0 c.in_ok-end_line.ensures c.in_ok-all_lines.ensures c.in_ok-pool_lines.ensures
