use Rattle.std.proofs.Common.{◌≡◌, ◌∙◌, ap, sym, true, arith, ◌==◌, ◌&&◌}
use Rattle.qp_chart.specs.StateTree.{has}
use Rattle.std.proofs.lemmas.Bool.Decides.{nat_tests}
use Rattle.qp_check_lanes.proofs.StandingLemmas.{has-flag}
use Rattle.qp_check_lanes.proofs.references.References.allows.Goals as goal

pub returns-then-d-count : goal.returns-then-d-count
returns-then-d-count c = λ s h.
    let counted : c.in-Dec.d ≡ s.count = omega (arith, c.if-d-count.true, c.len-count.ensures, h.counted, c.args.self.now.flags.ok.0) in
    let same : (c.in-Dec.d == s.count) ≡ true = grind (arith, nat_tests) in
    rw c.in-Dec.is (c.has.ensures ∙ sym (has-flag s _ _ h c.in-Dec.k) ∙ ap (λ b. b && has s.names c.in-Dec.k) (sym same))
