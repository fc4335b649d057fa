use Rattle.std.proofs.Common.{◌<◌, ◌^◌, ◌∙◌, ap, nat_eq, arith}
use Rattle.qp_check_ends.proofs.TakesLemmas.{spent-is}
use Rattle.qp_check_ends.proofs.takes.Takes.has_spent.Goals as goal

pub returns : goal.returns
returns c =
    let small : c.args.j.now.budget < 2 ^ 32 = omega arith in
    let known : c.args.o < 256 = omega arith in
    ap (λ b. nat_eq c.of.result b) c.from.ensures ∙ spent-is c.args.j.now.lanes c.args.self.now c.requires c.args.o c.of.result c.args.j.now.budget known small c.of.ensures
