use Rattle.std.proofs.Common.{◌≡◌, ◌∙◌, ◌+◌, ◌++◌, [], ◌∷◌, ap, sym, take}
use Rattle.std.proofs.lemmas.List.{take_more}
use Rattle.qp_check_lanes.specs.Groups.{groups_joined}
use Rattle.qp_check_lanes.proofs.GroupLemmas.{joined-append}
use Rattle.qp_check_words.proofs.histories.all_of.Goals as goal

pub loop-g-preserved : goal.loop-g-preserved
loop-g-preserved c =
    let xs = c.deref-g-items.result.now in
    let i = c.loop-g.g-index in
    let g = c.g-item.result in
    let same = c.deref-g-items.ensures.value ∙ c.groups.view_is in
    let next : take (i + 1) c.args.groups.now ≡ take i c.args.groups.now ++ g ∷ [] =
    rw (← same) (take_more xs i g c.loop-g-test.true ∙ ap (λ h. take i xs ++ h ∷ []) (sym c.g-item.is)) in
    c.in_ok-put_all.ensures ∙ ap (λ h. h ++ g) c.loop-g.invariant ∙ sym (joined-append (take i c.args.groups.now) g) ∙ ap groups_joined (sym next)
