use Rattle.qp_text_scan.proofs.LineLemmas.{said-front}
use Rattle.qp_text_scan.proofs.records.read_said.Goals as goal

pub returns : goal.returns
returns c =
    λ first. said-front first c.in_ok-value.value _ _ c.args.text.now _ _ c.in_ok-rest-2.rest.now c.requires c.push.ensures.items c.in_ok-rest.ensures.text
    c.in_ok-value.ensures.text c.in_ok-rest-2.ensures.text
