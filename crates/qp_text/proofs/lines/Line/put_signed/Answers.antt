use Rattle.std.proofs.Common.{length, decimal, arith, length-append, ap, ◌∙◌}
use Rattle.std.proofs.lemmas.Fmt.{length-decimal-le}
use Rattle.qp_text.proofs.lines.Line.put_signed.Goals.{then-n-lt0, else-n-lt0}
use Rattle.qp_text.proofs.lines.Line.put_signed.Goals as goal

pub put_byte-requires-2 : goal.put_byte-requires-2
put_byte-requires-2 c =
    let short = length-decimal-le 19 c.unsigned_abs.result (omega arith) (omega (arith, c.unsigned_abs.ensures.bound)) (omega arith) in
    let whole = ap length c.put_digits.ensures.bytes ∙ length-append (decimal c.unsigned_abs.result) c.args.self.now in
    elim c.if-n-lt0.branch [
      | then-n-lt0 w ↦ omega (arith, ap length w.self-is, w.put_byte.ensures.len, whole, short)
      | else-n-lt0 w ↦ omega (arith, ap length w.self-is, whole, short)
    ]

pub returns-clause-len : goal.returns-clause-len
returns-clause-len c =
    let short = length-decimal-le 19 c.unsigned_abs.result (omega arith) (omega (arith, c.unsigned_abs.ensures.bound)) (omega arith) in
    let whole = ap length c.put_digits.ensures.bytes ∙ length-append (decimal c.unsigned_abs.result) c.args.self.now in
    elim c.if-n-lt0.branch [
      | then-n-lt0 w ↦ omega (arith, ap length w.self-is, w.put_byte.ensures.len, c.put_byte-2.ensures.len, whole, short)
      | else-n-lt0 w ↦ omega (arith, ap length w.self-is, c.put_byte-2.ensures.len, whole, short)
    ]
