use Rattle.std.proofs.Common.{◌∙◌, ◌++◌, ◌∷◌, [], append-nil, append_assoc, ap, subst, sym, take}
use Rattle.std.proofs.lemmas.List.{take_all}
use Rattle.qp_check_lanes.proofs.ItemLemmas.{items-none, items-up_to}
use Rattle.qp_model.specs.History.{lane_items}
use Rattle.qp_model.specs.Record.{item_of}
use Rattle.qp_summary.specs.Counting.{AreBlocks}
use Rattle.qp_summary.proofs.blocks.Blocks.add_lane.Goals as goal

pub loop-r-init : goal.loop-r-init
loop-r-init c = λ size items are. subst (AreBlocks size c.args.self.now) (sym (ap (λ x. items ++ x) items-none ∙ append-nil items)) are

pub loop-r-preserved : goal.loop-r-preserved
loop-r-preserved c = λ size items are.
    let lane = c.args.lane.now in
    let k = c.loop-r.r-index in
    let front = lane_items (take k lane) in
    subst (AreBlocks size c.add.new.self) (append_assoc items front (item_of c.r-item.result ∷ []) ∙ sym (ap (λ l. items ++ l) (items-up_to lane k c.r-item.result c.loop-r-test.true c.r-item.is)))
    (c.add.ensures size (items ++ front) (c.loop-r.invariant size items are))

pub returns : goal.returns
returns c = λ size items are.
    subst (λ l. AreBlocks size c.loop-r.self (items ++ lane_items l)) (take_all c.loop-r.r-index c.args.lane.now c.loop-r-test.false) (c.loop-r.invariant size items are)
