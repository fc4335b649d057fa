use Rattle.std.proofs.Common.{◌≡◌, ◌-◌, ◌<◌, length, refl, arith}
use Rattle.qp_chart.specs.Parents.{parent_in, path_in}
use Rattle.qp_chart.proofs.ParentsLemmas.{path_in-None, path_in-zero, path_in-Some}
use Rattle.qp_chart.proofs.parents.+path_len.Goals as goal

pub returns-then-steps-eq0-clause-len : goal.returns-then-steps-eq0-clause-len
returns-then-steps-eq0-clause-len t c = rw (c.if-steps-eq0.true, path_in-zero c.args.parents.now c.args.from) refl

pub returns-in-None-clause-len : goal.returns-in-None-clause-len
returns-in-None-clause-len t c = rw (c.in-None.is, path_in-None c.args.parents.now c.args.steps) refl

pub returns-in-Some-clause-len : goal.returns-in-Some-clause-len
returns-in-Some-clause-len t c =
    let some : 0 < c.args.steps = omega arith in
    let rest : c.path_len.result ≡ length (path_in c.args.parents.now (c.args.steps - 1) (parent_in c.args.parents.now c.in-Some.here)) =
    rw c.parent.ensures at c.path_len.ensures.len in
    rw (c.in-Some.is, path_in-Some c.args.parents.now c.args.steps c.in-Some.here some) (omega (arith, rest))
