use Rattle.std.proofs.Common.{◌∙◌, false, get_or, sym, ap, arith}
use Rattle.qp_check_ends.proofs.ReferenceCountLemmas.{same-as, same-not-all}
use Rattle.qp_check_ends.proofs.reference_counts.ReferenceCounts.are.Goals as goal

pub returns-then-not-has_all : goal.returns-then-not-has_all
returns-then-not-has_all c = λ names h.
    same-not-all names c.args.self.now.counts.items c.args.self.now.total h c.args.others.now (sym c.has_all.ensures ∙ c.if-not-has_all.true)

pub returns : goal.returns
returns c = λ names h.
    same-as names c.args.self.now.counts.items c.args.self.now.total h c.args.others.now (omega (arith, c.if-self-others.false)) (sym c.has_all.ensures ∙ c.if-not-has_all.false)
    c.has_only.result (c.has_only.ensures names c.args.others.now h
    (λ k lt. ap (λ marks. get_or marks k false) c.deref.ensures.value ∙ c.in_ok-marks.ensures.1 k (omega (arith, lt, c.len.ensures))))
