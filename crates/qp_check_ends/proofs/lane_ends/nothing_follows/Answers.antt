use Rattle.std.proofs.Common.{rules, tests, ◌∙◌, sym, not}
use Rattle.std.proofs.lemmas.Iterator.{YieldsList-from_slice}
use Rattle.std.proofs.lemmas.Iterator.Search.{all_from_yields_List}
use Rattle.qp_model.specs.Record.{item_of}
use Rattle.qp_model.specs.History.{lane_items}
use Rattle.qp_model.specs.Ends.{is_end}
use Rattle.qp_check_lanes.proofs.EndLemmas.{ends_last-front, ends_last-none}
use Rattle.qp_check_ends.proofs.lane_ends.nothing_follows.Goals as goal

pub returns-in-Some : goal.returns-in-Some
unfolding lane_items
returns-in-Some c =
    all_from_yields_List (λ r. not (is_end (item_of r).body)) _ _ _ c.all.ensures.ran (YieldsList-from_slice c.in-Some.front.now cc) (λ x b q k. search (rules, tests))
    ∙ sym (ends_last-front item_of c.args.lane.now c.in-Some.front.now c.in-Some.field-0-0.now c.in-Some.ensures.cases.0)

pub returns-in-None : goal.returns-in-None
unfolding lane_items
returns-in-None c = sym (ends_last-none item_of c.args.lane.now c.in-None.ensures.cases)
