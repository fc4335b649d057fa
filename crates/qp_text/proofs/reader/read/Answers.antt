use Rattle.std.proofs.Common.{◌∙◌, sym, arith}
use Rattle.qp_text.proofs.ReadLemmas.{read-next, read-fault}
use Rattle.qp_text.proofs.reader.read.Goals as goal

pub returns-in-Err-Code : goal.returns-in-Err-Code
returns-in-Err-Code c =
    let fault = rw c.in-Err-Code.field-0-is at c.in-Err-Code.ensures in
    let parts = rw c.in-Some.is at c.cut.ensures.parts in
    rw c.in-Err-Code.code-is
    (sym c.loop-next.invariant.so_far ∙ rw parts (read-fault c.loop-next.number c.in-Err-Code.code c.loop-next.reading c.cut.result.0.now c.in-Some.next.now fault))

pub loop-next-preserved : goal.loop-next-preserved
loop-next-preserved c =
    let parts = rw c.in-Some.is at c.cut.ensures.parts in
    let shorter = rw c.in-Some.is at c.cut.ensures.shorter in
    record {
      so_far =
          sym (rw parts (read-next c.loop-next.number c.loop-next.reading c.take_line.new.self c.cut.result.0.now c.in-Some.next.now c.in-Ok.ensures))
          ∙ c.loop-next.invariant.so_far;
      few = omega (arith, shorter);
    }
