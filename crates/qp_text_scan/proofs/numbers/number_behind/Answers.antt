use Rattle.std.proofs.Common.{arith}
use Rattle.qp_text_scan.proofs.NumberLemmas.{digits-more}
use Rattle.qp_text_scan.proofs.numbers.number_behind.Goals as goal

pub loop-more-preserved : goal.loop-more-preserved
loop-more-preserved c = record {
  so_far =
      digits-more c.loop-more.n c.in_ok-n.n c.in-Some.more _ c.loop-more.rest.now c.in-Some.behind.now c.loop-more.invariant.some c.in-Some.ensures.small
      c.in_ok-n.ensures (omega arith) c.loop-more.invariant.so_far c.in-Some.ensures.text;
  some = omega (arith, c.in_ok-n.ensures, c.loop-more.invariant.some);
  shorter = omega (arith, c.in-Some.ensures.shorter, c.loop-more.invariant.shorter);
}
