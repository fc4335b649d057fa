use Rattle.std.proofs.Common.{◌∙◌, ◌&&◌, ◌+◌, sym, ap, drop}
use Rattle.std.specs.List.{list_all}
use Rattle.qp_model.specs.History.{lane_items}
use Rattle.qp_model.specs.End.{spent_right}
use Rattle.qp_check_ends.proofs.JournalEndLemmas.{all-one, all-end}
use Rattle.qp_check_ends.proofs.journal_end.all_stand.Goals as goal

pub returns-then-not-spent_stands : goal.returns-then-not-spent_stands
returns-then-not-spent_stands c =
    let p = spent_right c.args.sys.now c.args.j.now c.args.n in
    sym (all-one p c.args.lane.now c.loop-r.r-index c.r-item.result c.loop-r-test.true c.r-item.is
    ∙ ap (λ b. b && list_all p (lane_items (drop (c.loop-r.r-index + 1) c.args.lane.now))) (sym c.spent_stands.ensures ∙ c.if-not-spent_stands.true))
    ∙ c.loop-r.invariant

pub loop-r-preserved : goal.loop-r-preserved
loop-r-preserved c =
    let p = spent_right c.args.sys.now c.args.j.now c.args.n in
    sym (all-one p c.args.lane.now c.loop-r.r-index c.r-item.result c.loop-r-test.true c.r-item.is
    ∙ ap (λ b. b && list_all p (lane_items (drop (c.loop-r.r-index + 1) c.args.lane.now))) (sym c.spent_stands.ensures ∙ c.if-not-spent_stands.false))
    ∙ c.loop-r.invariant

pub returns : goal.returns
returns c = sym (all-end (spent_right c.args.sys.now c.args.j.now c.args.n) c.args.lane.now c.loop-r.r-index c.loop-r-test.false) ∙ c.loop-r.invariant
