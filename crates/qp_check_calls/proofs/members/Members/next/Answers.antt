use Rattle.std.proofs.Common.{◌∙◌, sym, arith}
use Rattle.qp_check_calls.proofs.LookupLemmas.{members-first, members-later, members-none}
use Rattle.qp_check_calls.proofs.members.Members.next.Goals as goal

pub returns-then-self-eq1 : goal.returns-then-self-eq1
returns-then-self-eq1 c =
    sym c.self.view_is ∙ c.loop-self.invariant.same ∙ members-first c.loop-self.self-inside.below c.loop-self.self-inside.set c.loop-self-test.true c.if-self-eq1.true

pub loop-self-preserved : goal.loop-self-preserved
loop-self-preserved c = record {
  within = omega arith;
  same = c.loop-self.invariant.same ∙ members-later c.loop-self.self-inside.below c.loop-self.self-inside.set c.loop-self-test.true c.if-self-eq1.false;
}

pub returns : goal.returns
returns c = sym c.self.view_is ∙ c.loop-self.invariant.same ∙ members-none c.loop-self.self-inside.below c.loop-self.self-inside.set c.loop-self-test.false
