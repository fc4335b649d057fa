use Rattle.std.proofs.Common.{rules, tests, ◌∙◌}
use Rattle.std.proofs.lemmas.Iterator.{YieldsList-from_slice}
use Rattle.std.proofs.lemmas.Iterator.Search.{any_from_yields_List}
use Rattle.qp_model.specs.Record.{item_of}
use Rattle.qp_model.specs.Ends.{is_end}
use Rattle.qp_check_lanes.proofs.ItemLemmas.{items-any}
use Rattle.qp_check_ends.proofs.journal_end.ends.Goals as goal

pub returns : goal.returns
returns c =
    any_from_yields_List (λ r. is_end (item_of r).body) _ _ _ c.any.ensures.ran (YieldsList-from_slice c.args.lane.now cc) (λ x b q k. search (rules, tests))
    ∙ items-any (λ i. is_end i.body) c.args.lane.now
