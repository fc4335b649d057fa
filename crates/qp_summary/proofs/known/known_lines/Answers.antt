use Rattle.std.proofs.Common.{◌∙◌, ◌++◌, ◌∷◌, [], take, sym, ap, subst}
use Rattle.std.proofs.lemmas.List.{take_all}
use Rattle.qp_model.specs.declared.systems.System.{System}
use Rattle.qp_model.specs.OutputSummary.{AreObjectLines}
use Rattle.qp_summary.proofs.SummaryLemmas.{front-next, lines-then}
use Rattle.qp_summary.proofs.known.known_lines.Goals as goal

pub loop-d-init : goal.loop-d-init
unfolding AreObjectLines
loop-d-init c = c.none-lines.ensures

pub loop-d-preserved : goal.loop-d-preserved
loop-d-preserved c =
    let sys = c.args.sys.now in
    let j = c.args.j.now in
    let ds = c.deref-d-items.result.now in
    let more = lines-then sys j (take c.loop-d.d-index ds) c.d-item.result _ _ c.loop-d.invariant (rw c.in-Some.is at c.in_ok-line.ensures) in
    subst (λ xs. AreObjectLines sys j xs c.push.new.self) (sym (front-next ds c.loop-d.d-index c.d-item.result c.loop-d-test.true c.d-item.is))
    (subst (λ ls. AreObjectLines sys j (take c.loop-d.d-index ds ++ c.d-item.result ∷ []) ls) (sym c.in_ok-push-in-Some.ensures) more)

pub returns : goal.returns
returns c =
    let same = take_all c.loop-d.d-index c.deref-d-items.result.now c.loop-d-test.false ∙ c.deref-d-items.ensures.value ∙ ap (λ (s : System). s.objects) c.sys.view_is in
    subst (λ xs. AreObjectLines c.args.sys.now c.args.j.now xs c.loop-d.lines) same c.loop-d.invariant
