use Rattle.std.proofs.Common.{◌++◌, ap}
use Rattle.qp_model.specs.Record.{item_of}
use Rattle.qp_model.specs.History.{lane_items}
use Rattle.qp_model.specs.Home.{own_items}
use Rattle.qp_model.specs.Knowing.{records_of}
use Rattle.qp_check_knowledge.specs.Knowledge.{known_facts}
use Rattle.qp_check_knowledge.proofs.ToldLemmas.{told-step, told-end}
use Rattle.qp_check_knowledge.proofs.told_lists.told_records.Goals as goal

pub loop-r-init : goal.loop-r-init
loop-r-init c = ap (λ l. l ++ records_of (known_facts c.args.knowledge.now) c.args.o 0 (own_items c.args.looks c.args.o (lane_items c.args.lane.now))) c.new-told.ensures.items

pub loop-r-preserved : goal.loop-r-preserved
unfolding item_of
loop-r-preserved c =
    told-step (known_facts c.args.knowledge.now) c.args.o c.args.looks c.loop-r.ceiling c.args.lane.now c.loop-r.r-index c.loop-r.told.items
    (records_of (known_facts c.args.knowledge.now) c.args.o 0 (own_items c.args.looks c.args.o (lane_items c.args.lane.now))) c.loop-r.invariant
    c.r-item.result c.loop-r-test.true c.r-item.is c.put_own.new.all.items c.ceiling_after-ceiling.result c.in_ok-put_own.ensures
    c.ceiling_after-ceiling.ensures

pub returns : goal.returns
returns c =
    told-end (known_facts c.args.knowledge.now) c.args.o c.args.looks c.loop-r.ceiling c.args.lane.now c.loop-r.r-index c.loop-r.told.items
    (records_of (known_facts c.args.knowledge.now) c.args.o 0 (own_items c.args.looks c.args.o (lane_items c.args.lane.now))) c.loop-r.invariant c.loop-r-test.false
