use Rattle.std.proofs.Common.{rules, ◌≡◌, ◌∙◌, sym, not, ◌==◌}
use Rattle.std.specs.List.{filter}
use Rattle.std.proofs.lemmas.Fn.{filter_same}
use Rattle.qp_check_lanes.proofs.ShortListLemmas.{without_all-filter}
use Rattle.qp_check_lanes.proofs.numbers.take_out.Goals as goal

pub returns : goal.returns
returns c =
    let kept : c.retain.new.self.items ≡ filter (λ x. not (x == c.args.n)) c.args.xs.now.items = filter_same _ _ _ (λ x b f' k. search rules) _ _ c.retain.ensures.filtered in
    kept ∙ sym (without_all-filter c.args.n c.args.xs.now.items)
