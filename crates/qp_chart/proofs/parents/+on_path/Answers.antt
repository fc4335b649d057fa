use Rattle.std.proofs.Common.{◌≡◌, ◌==◌, ◌<◌, true, false, refl, arith, eq-eqb}
use Rattle.std.proofs.lemmas.Bool.Decides.{nat_tests}
use Rattle.qp_chart.proofs.ParentsLemmas.{path_in-None, path_in-zero, path_in-Some}
use Rattle.qp_chart.proofs.parents.+on_path.Goals as goal

pub returns-then-steps-eq0 : goal.returns-then-steps-eq0
returns-then-steps-eq0 t c = rw (c.if-steps-eq0.true, path_in-zero c.args.parents.now c.args.from) refl

pub returns-in-None : goal.returns-in-None
returns-in-None t c = rw (c.in-None.is, path_in-None c.args.parents.now c.args.steps) refl

pub returns-then-here-state : goal.returns-then-here-state
returns-then-here-state t c =
    let some : 0 < c.args.steps = omega arith in
    let here : (c.in-Some.here == c.args.state) ≡ true = eq-eqb _ _ c.if-here-state.true in
    rw (c.in-Some.is, path_in-Some c.args.parents.now c.args.steps c.in-Some.here some, here) refl

pub returns-else-here-state : goal.returns-else-here-state
returns-else-here-state t c =
    let some : 0 < c.args.steps = omega arith in
    let elsewhere : (c.in-Some.here == c.args.state) ≡ false = grind (arith, nat_tests) in
    rw (c.in-Some.is, path_in-Some c.args.parents.now c.args.steps c.in-Some.here some, elsewhere, ← c.parent.ensures) c.on_path.ensures
