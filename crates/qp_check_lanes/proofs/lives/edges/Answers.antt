use Rattle.std.proofs.Common.{◌≡◌, ◌∙◌, ap, sym, refl, ◌++◌, ◌∷◌, [], take, Some, None, append-nil}
use Rattle.std.proofs.lemmas.List.Elements.{filter_map-append}
use Rattle.qp_model.specs.Record.{item_of, body_of}
use Rattle.qp_model.specs.Lives.{edges, edge_of}
use Rattle.qp_check_lanes.proofs.WalkLemmas.{front_seen}
use Rattle.qp_check_lanes.proofs.lives.edges.Goals as goal
use Rattle.qp_check_lanes.proofs.lives.edges.Goals.{in-Some+in_ok-push-in-Some, in-None}

pub loop-r-init : goal.loop-r-init
unfolding edges
loop-r-init c = c.new-edges.ensures.items

pub loop-r-preserved : goal.loop-r-preserved
unfolding edges item_of
loop-r-preserved c =
    let i = c.loop-r.r-index in
    let b = c.args.b in
    let next = front_seen (λ r. item_of r.now) c.own.view_is c.deref-r-items.ensures.value i c.r-item.result c.loop-r-test.true c.r-item.is in
    let grows = ap (edges b) next ∙ filter_map-append (λ i. edge_of b i.body) (take i c.args.own.now) (item_of c.r-item.result.now ∷ []) in
    let told = c.edge_of.ensures ∙ ap (edge_of b) c.body.ensures in
    elim c.match-edge_of.branch [
      | in-Some+in_ok-push-in-Some w ↦
          let is : edge_of b (body_of c.r-item.result.now) ≡ Some w.in-Some.edge = sym told ∙ w.in-Some.is in
          rw w.edges-is (w.in_ok-push-in-Some.ensures.items ∙ ap (λ xs. xs ++ w.in-Some.edge ∷ []) c.loop-r.invariant ∙ sym (grows ∙ rw is refl))
      | in-None w ↦
          let is : edge_of b (body_of c.r-item.result.now) ≡ None = sym told ∙ w.in-None.is in
          rw w.edges-is (c.loop-r.invariant ∙ sym (grows ∙ rw is (append-nil (edges b (take i c.args.own.now)))))
    ]
