use Rattle.std.proofs.Common.{◌≡◌, ◌∙◌, ◌-◌, cond, ap, sym, arith}
use Rattle.qp_check_knowledge.proofs.KnownTableLemmas.{counted-dec}
use Rattle.qp_check_knowledge.proofs.known_tables.Standing.apply.Goals as goal

pub add-requires : goal.add-requires
add-requires c q = omega (arith, c.requires.few, c.requires.each q)

pub returns-then-branch-clause-counted : goal.returns-then-branch-clause-counted
returns-then-branch-clause-counted c s h =
    rw c.in-Dec.is
    (counted-dec s c.args.self.now.counts c.take.new.self c.args.self.now.total h c.in-Dec.p c.in-Dec.b c.in-Dec.d c.in-Dec.k c.saturating_sub-self.result c.in_ok-take-in-Dec.field-0
    c.in_ok-take-in-Dec.ensures.rest c.in_ok-take-in-Dec.ensures.found (c.saturating_sub-self.ensures ∙ ap (λ b. c.args.self.now.total - cond b 1 0) (sym c.if-branch.true)))

pub returns-else-branch-clause-counted : goal.returns-else-branch-clause-counted
returns-else-branch-clause-counted c s h =
    let less : c.args.self.now.total ≡ c.args.self.now.total - 0 = omega arith in
    rw c.in-Dec.is
    (counted-dec s c.args.self.now.counts c.take.new.self c.args.self.now.total h c.in-Dec.p c.in-Dec.b c.in-Dec.d c.in-Dec.k c.args.self.now.total c.in_ok-take-in-Dec.field-0
    c.in_ok-take-in-Dec.ensures.rest c.in_ok-take-in-Dec.ensures.found (less ∙ ap (λ b. c.args.self.now.total - cond b 1 0) (sym c.if-branch.false)))
