use Rattle.std.proofs.Common.{◌≡◌, ◌∙◌, ◌+◌, ◌++◌, [], ◌∷◌, sym, ap, take}
use Rattle.qp_model.specs.Record.{item_of}
use Rattle.qp_check_lanes.specs.Groups.{grouped, put_at}
use Rattle.qp_check_lanes.proofs.WalkLemmas.{front_seen}
use Rattle.qp_check_lanes.proofs.GroupLemmas.{grouped-none, grouped-put, grouped-keep}
use Rattle.qp_check_lanes.proofs.groups.grouped.Goals as goal
use Rattle.qp_check_lanes.proofs.groups.grouped.Goals.{in-Some+in_ok-put-in-Some, in-None}

pub loop-r-init : goal.loop-r-init
loop-r-init g c = c.in_ok-groups.ensures ∙ sym (grouped-none _ c.args.size)

pub loop-r-preserved : goal.loop-r-preserved
loop-r-preserved g c =
    let key = g.K.Key.key_of c.args.key.now in
    let i = item_of c.r-item.result.now in
    let before = take c.loop-r.r-index c.args.records.now in
    let next : take (c.loop-r.r-index + 1) c.args.records.now ≡ before ++ i ∷ [] =
    front_seen (λ r. item_of r.now) c.records.view_is c.deref-r-items.ensures.value c.loop-r.r-index c.r-item.result c.loop-r-test.true c.r-item.is in
    elim c.match-key.branch [
      | in-Some+in_ok-put-in-Some w ↦
          w.groups-is ∙ w.in_ok-put-in-Some.ensures ∙ ap (put_at w.in-Some.k i) c.loop-r.invariant
          ∙ grouped-put key before i c.args.size w.in-Some.k (sym c.key.ensures ∙ w.in-Some.is) ∙ ap (grouped key c.args.size) (sym next)
      | in-None w ↦
          w.groups-is ∙ c.loop-r.invariant ∙ sym (grouped-keep key before i c.args.size (sym c.key.ensures ∙ w.in-None.is)) ∙ ap (grouped key c.args.size) (sym next)
    ]
