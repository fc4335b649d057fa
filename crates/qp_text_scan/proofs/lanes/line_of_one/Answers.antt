use Rattle.qp_text_scan.proofs.LineLemmas.{one-front}
use Rattle.qp_text_scan.proofs.lanes.line_of_one.Goals as goal

pub returns : goal.returns
returns c =
    λ form. one-front form c.args.id c.in_ok-n.n c.args.text.now c.in_ok-found.rest.now c.in_ok-n.rest.now c.in_ok-rest.rest.now c.requires
    (rw c.if-found-id.false at c.in_ok-found.ensures.text) c.in_ok-n.ensures.text c.in_ok-rest.ensures.text
