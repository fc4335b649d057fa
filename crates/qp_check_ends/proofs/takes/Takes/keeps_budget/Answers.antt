use Rattle.std.proofs.Common.{◌<◌, ◌^◌, ◌∙◌, ap, nat_le, arith}
use Rattle.qp_check_ends.proofs.TakesLemmas.{within-is}
use Rattle.qp_check_ends.proofs.takes.Takes.keeps_budget.Goals as goal

pub returns : goal.returns
returns c =
    let small : c.args.j.now.budget < 2 ^ 32 = omega arith in
    let known : c.args.o < 256 = omega arith in
    ap (λ b. nat_le c.of.result b) c.from.ensures ∙ within-is c.args.j.now.lanes c.args.self.now c.requires c.args.o c.of.result c.args.j.now.budget known small c.of.ensures
