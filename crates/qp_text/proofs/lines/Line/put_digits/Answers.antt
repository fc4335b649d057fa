use Rattle.std.proofs.Common.{◌≡◌, length, drop, decimal, arith, length-append, length-drop, ap, ◌∙◌}
use Rattle.std.proofs.lemmas.Fmt.{decimal_digit, length-decimal-le}
use Rattle.qp_text.proofs.lines.Line.put_digits.Goals as goal

pub returns-then-n-lt10-clause-bytes : goal.returns-then-n-lt10-clause-bytes
returns-then-n-lt10-clause-bytes c = rw (decimal_digit c.args.n c.if-n-lt10.true) c.put_byte.ensures.bytes

pub write_digits-self-inside-requires : goal.write_digits-self-inside-requires
write_digits-self-inside-requires c =
    let short = length-decimal-le 20 c.args.n (omega arith) (omega arith) (omega arith) in
    let before : length (drop c.self.inside.start c.self.inside.room) ≡ length c.args.self.now = ap length c.self.view_is in
    let room = length-drop c.self.inside.start c.self.inside.room in
    (omega (arith, short, before, room, c.self.told, c.requires), omega (arith, c.self.told, c.self.invariant))

pub returns-clause-len : goal.returns-clause-len
returns-clause-len c =
    let short = length-decimal-le 20 c.args.n (omega arith) (omega arith) (omega arith) in
    let before : length (drop c.self.inside.start c.self.inside.room) ≡ length c.args.self.now = ap length c.self.view_is in
    let whole = ap length c.write_digits-self-inside.ensures.written ∙ length-append (decimal c.args.n) (drop c.self.inside.start c.self.inside.room) in
    omega (arith, short, before, whole)
