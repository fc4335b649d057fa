use Rattle.std.proofs.Common.{◌∙◌, ◌&&◌, ap, sym}
use Rattle.qp_model.specs.History.{lane_items}
use Rattle.qp_check_knowledge.specs.SpillCuts.{ends_with}
use Rattle.qp_check_knowledge.proofs.CutLemmas.{spill-cuts, none-cuts}
use Rattle.qp_check_knowledge.proofs.told_cut.spill_cuts.Goals as goal

pub returns-then-is_spill : goal.returns-then-is_spill
returns-then-is_spill c =
    let o = c.args.o in
    let front = c.in-Some.front.now in
    c.ends_with.ensures
    ∙ sym (spill-cuts c.args.lane.now front c.in-Some.last.now c.in-Some.ensures.cases.0 o
    ∙ ap (λ b. b && ends_with o (lane_items front)) (sym c.is_spill.ensures ∙ c.if-is_spill.true))

pub returns-else-is_spill : goal.returns-else-is_spill
returns-else-is_spill c =
    let o = c.args.o in
    let front = c.in-Some.front.now in
    c.if-is_spill.false
    ∙ sym (spill-cuts c.args.lane.now front c.in-Some.last.now c.in-Some.ensures.cases.0 o
    ∙ ap (λ b. b && ends_with o (lane_items front)) (sym c.is_spill.ensures ∙ c.if-is_spill.false))

pub returns-in-None : goal.returns-in-None
returns-in-None c = sym (none-cuts c.args.o c.args.lane.now c.in-None.ensures.cases)
