use Rattle.qp_text_scan.proofs.ScanLemmas.{scanned}
use Rattle.qp_text_scan.proofs.scan.scan_journal.Goals as goal

pub returns : goal.returns
returns c =
    scanned c.in_ok-head.head.form c.in_ok-head.head.kernel c.in_ok-head.head.budget c.in_ok-lanes.lanes c.in_ok-end.end
    c.args.bytes.now c.in_ok-head.rest.now c.in_ok-lanes.rest.now c.in_ok-head.ensures.head c.in_ok-lanes.ensures.readable c.in_ok-lanes.ensures.count
    c.in_ok-end.ensures.status c.in_ok-head.ensures.text c.in_ok-lanes.ensures.text (c.in_ok-end.ensures.text c.in_ok-head.head.form)
