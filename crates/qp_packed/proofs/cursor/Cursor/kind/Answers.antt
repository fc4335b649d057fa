use Rattle.std.proofs.Common.{◌-◌, arith}
use Rattle.qp_packed.proofs.StepLemmas.{next-some, next-kind}
use Rattle.qp_packed.proofs.cursor.Cursor.kind.Goals as goal

pub cut-head-requires : goal.cut-head-requires
cut-head-requires c = next-some c.self.inside.left c.self.inside.words.now c.self.invariant c.if-self-eq0.false

pub returns : goal.returns
returns c = rw (← c.self.view_is) (next-kind c.self.inside.left (c.self.inside.left - 1) c.self.inside.words.now _ _ c.cut-head.ensures (omega arith))
