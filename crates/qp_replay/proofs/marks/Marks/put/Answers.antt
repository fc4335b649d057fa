use Rattle.std.proofs.Common.{◌≡◌, false, ap, sym, ◌∙◌}
use Rattle.std.specs.Option.{option_map_or}
use Rattle.std.specs.BTreeMap.{get}
use Rattle.std.specs.BTreeSet.{contains}
use Rattle.qp_check_lanes.specs.Keys.{key_cmp}
use Rattle.qp_replay.proofs.MarkLemmas.{put-has, none-has}
use Rattle.qp_replay.proofs.marks.Marks.put.Goals as goal
use Rattle.qp_replay.proofs.marks.Marks.put.Goals.{in-Some, in-None}

pub returns : goal.returns
returns c = λ q e.
    let key = c.args.key in
    let old = c.args.self.now.marks in
    let row : contains key_cmp c.match-remove.row e ≡ option_map_or (λ s. contains key_cmp s e) (get key_cmp old key) false =
    elim c.match-remove.branch [
      | in-Some w ↦ ap (λ s. contains key_cmp s e) w.row-is ∙ ap (λ o. option_map_or (λ s. contains key_cmp s e) o false) (sym w.in-Some.is ∙ c.remove.ensures.value)
      | in-None w ↦
          ap (λ s. contains key_cmp s e) w.row-is ∙ none-has w.new-row.result e w.new-row.ensures.len ∙ ap (λ o. option_map_or (λ s. contains key_cmp s e) o false) (sym w.in-None.is ∙ c.remove.ensures.value)
    ] in
    put-has key q c.args.mark e (λ k. get key_cmp old k) _ _ c.match-remove.row c.insert.new.self (c.in_ok-insert-2.ensures.updates.0 q) (c.remove.ensures.updates.0 q)
    (c.in_ok-insert.ensures.updates.0 e) row
