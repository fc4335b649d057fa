use Rattle.std.proofs.Common.{◌-◌, arith}
use Rattle.qp_packed.proofs.StepLemmas.{next-some, next-marked, next-packed, next-skipped}
use Rattle.qp_packed.proofs.cursor.Cursor.skip.Goals as goal

pub cut-head-requires : goal.cut-head-requires
cut-head-requires c = next-some c.self.inside.left c.self.inside.words.now c.self.invariant c.if-self-eq0.false

pub behind_numbers-self-inside-requires : goal.behind_numbers-self-inside-requires
behind_numbers-self-inside-requires c = next-marked c.self.inside.left c.self.inside.words.now _ _ c.self.invariant c.cut-head.ensures c.if-self-eq0.false

pub invariant_of-self : goal.invariant_of-self
invariant_of-self c = rw c.behind_numbers-self-inside.ensures (next-packed c.self.inside.left (c.self.inside.left - 1) c.self.inside.words.now _ _ c.self.invariant c.cut-head.ensures (omega arith))

pub returns : goal.returns
returns c = rw (← c.self.view_is, c.behind_numbers-self-inside.ensures) (next-skipped c.self.inside.left (c.self.inside.left - 1) c.self.inside.words.now _ _ c.cut-head.ensures (omega arith))
