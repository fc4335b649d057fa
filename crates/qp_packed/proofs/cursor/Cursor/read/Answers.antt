use Rattle.std.proofs.Common.{◌-◌, arith}
use Rattle.qp_packed.proofs.StepLemmas.{next-some, next-marked, next-packed, next-read}
use Rattle.qp_packed.proofs.cursor.Cursor.read.Goals as goal

pub cut-head-requires : goal.cut-head-requires
cut-head-requires c = next-some c.self.inside.left c.self.inside.words.now c.self.invariant c.if-self-eq0.false

pub numbers_into-rest-requires : goal.numbers_into-rest-requires
numbers_into-rest-requires c = record { marked = next-marked c.self.inside.left c.self.inside.words.now _ _ c.self.invariant c.cut-head.ensures c.if-self-eq0.false; none = c.clear.ensures }

pub invariant_of-self : goal.invariant_of-self
invariant_of-self c = rw c.numbers_into-rest.ensures.behind (next-packed c.self.inside.left (c.self.inside.left - 1) c.self.inside.words.now _ _ c.self.invariant c.cut-head.ensures (omega arith))

pub returns-clause-some : goal.returns-clause-some
returns-clause-some c = λ is. rw (← c.self.view_is, c.numbers_into-rest.ensures.numbers, c.numbers_into-rest.ensures.behind) (next-read c.self.inside.left (c.self.inside.left - 1) c.self.inside.words.now _ _ c.cut-head.ensures (omega arith))
