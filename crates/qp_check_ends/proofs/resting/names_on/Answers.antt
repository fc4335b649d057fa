use Rattle.std.proofs.Common.{◌∙◌, ◌+◌, ◌++◌, ap, sym, drop}
use Rattle.qp_model.specs.End.{names_on}
use Rattle.qp_check_ends.proofs.RestingLemmas.{names-end, names-skipped, names-taken}
use Rattle.qp_check_ends.proofs.resting.names_on.Goals as goal
use Rattle.qp_check_ends.proofs.resting.names_on.Goals.{then-is_on+in_ok-push, else-is_on}

pub loop-e-preserved : goal.loop-e-preserved
loop-e-preserved c =
    let p = c.args.p in
    let b = c.args.b in
    let entries = c.args.entries.now in
    let i = c.loop-e.e-index in
    elim c.if-is_on.branch [
      | then-is_on+in_ok-push w ↦
          names-taken p b entries i _ c.loop-e-test.true c.loop-e.names.items c.loop-e.invariant (sym c.is_on.ensures ∙ w.if-is_on.true)
          ∙ ap (λ ns. ns ++ names_on p b (drop (i + 1) entries)) (sym (w.in_ok-push.ensures.items) ∙ ap (λ v. v.items) (sym w.names-is))
      | else-is_on w ↦
          names-skipped p b entries i _ c.loop-e-test.true c.loop-e.names.items c.loop-e.invariant (sym c.is_on.ensures ∙ w.if-is_on.false)
          ∙ ap (λ v. v.items ++ names_on p b (drop (i + 1) entries)) (sym w.names-is)
    ]

pub returns : goal.returns
returns c = names-end c.args.p c.args.b c.args.entries.now c.loop-e.e-index c.loop-e.names.items c.loop-e-test.false c.loop-e.invariant
