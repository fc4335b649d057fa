use Rattle.std.proofs.Common.{rules, ◌≡◌, not}
use Rattle.std.specs.List.{filter}
use Rattle.std.proofs.lemmas.Fn.{filter_same}
use Rattle.qp_model.specs.Ends.{is_turn_mark}
use Rattle.qp_check_knowledge.proofs.told_lists.keep_dispatched.Goals as goal

pub returns : goal.returns
returns c =
    let kept : c.retain.new.self.items ≡ filter (λ t. not (is_turn_mark t.body)) c.args.told.now.items = filter_same _ _ _ (λ x b f' k. search rules) _ _ c.retain.ensures.filtered in
    kept
