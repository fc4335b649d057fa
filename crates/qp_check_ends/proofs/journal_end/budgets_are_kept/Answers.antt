use Rattle.std.proofs.Common.{◌∙◌, ◌&&◌, ◌+◌, nat_le, Bool, ap, sym, refl, drop}
use Rattle.std.specs.List.{list_all}
use Rattle.std.proofs.lemmas.List.{drop_all}
use Rattle.qp_model.specs.declared.systems.ObjectDef.{ObjectDef}
use Rattle.qp_model.specs.declared.systems.System.{System}
use Rattle.qp_model.specs.End.{took_count}
use Rattle.qp_model.specs.History.{all_items}
use Rattle.qp_check_lanes.proofs.WalkLemmas.{rest_at}
use Rattle.qp_check_ends.proofs.journal_end.budgets_are_kept.Goals as goal

pub loop-d-init : goal.loop-d-init
loop-d-init c = refl

pub loop-d-preserved : goal.loop-d-preserved
loop-d-preserved c =
    let p : ObjectDef → Bool = λ d. nat_le (took_count (all_items c.args.j.now.lanes) d.priority) c.args.j.now.budget in
    let xs = c.deref-d-items.result.now in
    let i = c.loop-d.d-index in
    sym (ap (list_all p) (rest_at xs i c.d-item.result c.loop-d-test.true c.d-item.is)
    ∙ ap (λ b. b && list_all p (drop (i + 1) xs)) (sym c.keeps_budget.ensures ∙ c.if-not-keeps_budget.false))
    ∙ c.loop-d.invariant

pub returns-then-not-keeps_budget : goal.returns-then-not-keeps_budget
returns-then-not-keeps_budget c =
    let p : ObjectDef → Bool = λ d. nat_le (took_count (all_items c.args.j.now.lanes) d.priority) c.args.j.now.budget in
    let xs = c.deref-d-items.result.now in
    let i = c.loop-d.d-index in
    sym (ap (list_all p) (rest_at xs i c.d-item.result c.loop-d-test.true c.d-item.is)
    ∙ ap (λ b. b && list_all p (drop (i + 1) xs)) (sym c.keeps_budget.ensures ∙ c.if-not-keeps_budget.true))
    ∙ c.loop-d.invariant ∙ ap (list_all p) (c.deref-d-items.ensures.value ∙ ap (λ (s : System). s.objects) c.sys.view_is)

pub returns : goal.returns
returns c =
    let p : ObjectDef → Bool = λ d. nat_le (took_count (all_items c.args.j.now.lanes) d.priority) c.args.j.now.budget in
    let xs = c.deref-d-items.result.now in
    sym (ap (list_all p) (drop_all c.loop-d.d-index xs c.loop-d-test.false))
    ∙ c.loop-d.invariant ∙ ap (list_all p) (c.deref-d-items.ensures.value ∙ ap (λ (s : System). s.objects) c.sys.view_is)
