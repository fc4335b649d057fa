use Rattle.std.proofs.Common.{rules, ◌≡◌, ◌∙◌, ap, not}
use Rattle.std.specs.List.{filter}
use Rattle.std.proofs.lemmas.Fn.{filter_same}
use Rattle.qp_model.specs.Ends.{is_spill}
use Rattle.qp_model.specs.History.{lane_items}
use Rattle.qp_check_knowledge.specs.Knowledge.{known_facts}
use Rattle.qp_model.specs.Knowing.{records_of}
use Rattle.qp_check_knowledge.proofs.ToldLemmas.{own-plain, source-records}
use Rattle.qp_check_knowledge.proofs.told_lists.source_told.Goals as goal

pub returns : goal.returns
returns c =
    let kept : c.retain.new.self.items ≡ filter (λ t. not (is_spill t.body)) c.in_ok-told.told.items = filter_same _ _ _ (λ x b f' k. search rules) _ _ c.retain.ensures.filtered in
    kept ∙ ap (filter (λ t. not (is_spill t.body))) (c.in_ok-told.ensures ∙ ap (records_of (known_facts c.args.knowledge.now) 0 0) (own-plain 0 (lane_items c.args.lane.now)))
    ∙ source-records (known_facts c.args.knowledge.now) (lane_items c.args.lane.now)
