use Rattle.qp_text_scan.proofs.LineLemmas.{record-front}
use Rattle.qp_text_scan.proofs.records.read_record.Goals as goal

pub returns-then-is_in_range-clause-text : goal.returns-then-is_in_range-clause-text
returns-then-is_in_range-clause-text c =
    record-front c.args.form c.in_ok-id.id c.in_ok-of.of _ c.args.text.now c.in_ok-id.rest.now c.in_ok-of.rest.now c.in_ok-rest.rest.now
    c.in_ok-id.ensures.text c.in_ok-of.ensures.text (c.in_ok-rest.ensures c.in_ok-of.of)
