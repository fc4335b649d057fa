use Rattle.std.proofs.Common.{◌≡◌, ◌∙◌, ◌+◌, ◌==◌, length, true, sym, IsTrue}
use Rattle.std.specs.Prelude.{⊤}
use Rattle.std.specs.Bool.{MatchBool}
use Rattle.qp_model.specs.Kernels.{has_one_order}
use Rattle.qp_model.specs.Lawful.{OrderHolds, lanes_before}
use Rattle.qp_check.proofs.RunPartLemmas.{both-as, both-not, unasked, when-asked}
use Rattle.qp_check.proofs.run_parts.lanes_hold.Goals as goal

pub returns-then-not-count_stands : goal.returns-then-not-count_stands
returns-then-not-count_stands c =
    both-not (IsTrue (length c.args.j.now.lanes == lanes_before c.args.sys.now c.args.j.now + length c.args.stim.now)) (MatchBool (has_one_order c.args.j.now.kernel) (OrderHolds c.args.sys.now c.args.stim.now c.args.j.now) ⊤)
    (λ h. let bad : c.count_stands.result ≡ true = c.count_stands.ensures ∙ h in cc)

pub returns-then-not-has_one_order : goal.returns-then-not-has_one_order
returns-then-not-has_one_order c =
    let O = OrderHolds c.args.sys.now c.args.stim.now c.args.j.now in
    both-as (IsTrue (length c.args.j.now.lanes == lanes_before c.args.sys.now c.args.j.now + length c.args.stim.now)) (MatchBool (has_one_order c.args.j.now.kernel) O ⊤)
    (sym c.count_stands.ensures ∙ c.if-not-count_stands.false) true
    (unasked O (has_one_order c.args.j.now.kernel) (sym c.has_one_order.ensures ∙ c.if-not-has_one_order.true))

pub returns : goal.returns
returns c =
    let O = OrderHolds c.args.sys.now c.args.stim.now c.args.j.now in
    both-as (IsTrue (length c.args.j.now.lanes == lanes_before c.args.sys.now c.args.j.now + length c.args.stim.now)) (MatchBool (has_one_order c.args.j.now.kernel) O ⊤)
    (sym c.count_stands.ensures ∙ c.if-not-count_stands.false) c.in_ok-holds.holds
    (when-asked O (has_one_order c.args.j.now.kernel) (sym c.has_one_order.ensures ∙ c.if-not-has_one_order.false) c.in_ok-holds.holds c.in_ok-holds.ensures)
