use Rattle.std.proofs.Common.{◌∙◌, not, ◌&&◌, ◌||◌, sym, ap}
use Rattle.qp_model.specs.Ends.{is_spill, may_cut}
use Rattle.qp_model.specs.Record.{item_of}
use Rattle.qp_check_lanes.proofs.SpillLemmas.{spills-cut, none-cut}
use Rattle.qp_check_lanes.proofs.lane_parts.spills_cut.Goals as goal

pub returns-then-not-is_spill : goal.returns-then-not-is_spill
returns-then-not-is_spill c =
    let end = c.args.end in
    ap not c.if-not-is_spill.true
    ∙ sym (spills-cut end c.args.lane.now c.in-Some.before.now c.in-Some.last.now c.in-Some.ensures.cases.0
    ∙ ap (λ b. not b && (not (is_spill (item_of c.in-Some.last.now).body) || may_cut end)) (sym c.spills_in.ensures ∙ c.if-not-spills_in.true)
    ∙ ap (λ b. not b || may_cut end) (sym c.is_spill.ensures ∙ c.if-not-is_spill.true))

pub returns-else-not-is_spill : goal.returns-else-not-is_spill
returns-else-not-is_spill c =
    let end = c.args.end in
    c.may_cut.ensures
    ∙ sym (spills-cut end c.args.lane.now c.in-Some.before.now c.in-Some.last.now c.in-Some.ensures.cases.0
    ∙ ap (λ b. not b && (not (is_spill (item_of c.in-Some.last.now).body) || may_cut end)) (sym c.spills_in.ensures ∙ c.if-not-spills_in.true)
    ∙ ap (λ b. not b || may_cut end) (sym c.is_spill.ensures ∙ c.if-not-is_spill.false))

pub returns-else-not-spills_in : goal.returns-else-not-spills_in
returns-else-not-spills_in c =
    let end = c.args.end in
    ap not c.if-not-spills_in.false
    ∙ sym (spills-cut end c.args.lane.now c.in-Some.before.now c.in-Some.last.now c.in-Some.ensures.cases.0
    ∙ ap (λ b. not b && (not (is_spill (item_of c.in-Some.last.now).body) || may_cut end)) (sym c.spills_in.ensures ∙ c.if-not-spills_in.false))

pub returns-in-None : goal.returns-in-None
returns-in-None c = sym (none-cut c.args.end c.args.lane.now c.in-None.ensures.cases)
