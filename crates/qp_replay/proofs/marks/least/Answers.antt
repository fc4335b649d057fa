use Rattle.std.proofs.Common.{◌<◌, length, arith}
use Rattle.qp_replay.proofs.MarkLemmas.{not-above, none-has}
use Rattle.qp_replay.proofs.marks.least.Goals as goal

pub returns-in-None-clause-found : goal.returns-in-None-clause-found
returns-in-None-clause-found c = λ e.
    let some = c.in-None.ensures.variant.1 in
    let none : 0 < length c.args.row.now.keys → ⊥ = λ h. let wrong = some h in cc wrong in
    none-has c.args.row.now e (omega (arith, none))

pub returns-in-Some-clause-least : goal.returns-in-Some-clause-least
returns-in-Some-clause-least c = λ e h. not-above _ e (c.in-Some.ensures.least e h)
