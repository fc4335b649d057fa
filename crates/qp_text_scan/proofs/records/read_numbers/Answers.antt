use Rattle.qp_text_scan.proofs.LineLemmas.{numbers-more}
use Rattle.qp_text_scan.proofs.records.read_numbers.Goals as goal

pub loop-n-preserved : goal.loop-n-preserved
loop-n-preserved c = record {
  so_far = rw c.push.ensures.items (numbers-more _ c.in-Some.n _ c.loop-n.rest.now c.in-Some.after.now c.loop-n.invariant.so_far c.in-Some.ensures.text);
}
