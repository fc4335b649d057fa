use Rattle.std.proofs.Common.{◌≡◌, ℕ, ◌∷◌, [], ◌++◌, map, length, sym, subst, ap, ◌∙◌, append_assoc, append-nil, arith}
use Rattle.std.specs.Vec.Iter.{into_iter_items}
use Rattle.std.proofs.lemmas.List.{map-append}
use Rattle.qp_model.specs.declared.systems.System.{System}
use Rattle.qp_model.proofs.ListLemmas.{nothing-left}
use Rattle.qp_port_runs.specs.Handed.{lane_view}
use Rattle.qp_wait.specs.Handed.{AreBellsOf}
use Rattle.qp_wait_runs.specs.Places.{ParksFor, object_in_place}
use Rattle.qp_wait_runs.proofs.Places.{parks-next}
use Rattle.qp_wait_runs.proofs.ringing.all_ringing.Goals as goal

pub add-requires-clause-system : goal.add-requires-clause-system
add-requires-clause-system c =
    let at = c.loop-lane in
    let steps : into_iter_items at.lane-iterator ≡ c.in-Some.lane ∷ into_iter_items c.next.new.self = c.in-Some.ensures.steps.0 in
    let all = rw steps at at.invariant.4 in
    subst (λ s. AreBellsOf s c.args.bells.now) (sym all.0) c.requires.bells

pub add-requires-clause-fresh : goal.add-requires-clause-fresh
add-requires-clause-fresh c =
    let at = c.loop-lane in
    let steps : into_iter_items at.lane-iterator ≡ c.in-Some.lane ∷ into_iter_items c.next.new.self = c.in-Some.ensures.steps.0 in
    let all = rw steps at at.invariant.5 in
    all.0

pub loop-lane-preserved : goal.loop-lane-preserved
loop-lane-preserved c =
    let at = c.loop-lane in
    let steps : into_iter_items at.lane-iterator ≡ c.in-Some.lane ∷ into_iter_items c.next.new.self = c.in-Some.ensures.steps.0 in
    let all = rw steps at at.invariant.4 in
    let fresh = rw steps at at.invariant.5 in (
      append_assoc at.yielded (c.in-Some.lane ∷ []) _ ∙ rw (← steps) at.invariant.0,
      c.in_ok-add.ensures.lane ∙ ap (λ vs. vs ++ lane_view c.in-Some.lane ∷ []) at.invariant.1 ∙ sym (map-append lane_view at.yielded (c.in-Some.lane ∷ [])),
      let was = at.invariant.2 in
          let gone = c.in-Some.ensures.steps.1 in
          let short = ap length steps in
          omega (arith, was, gone, short),
      c.in_ok-add.ensures.root,
      all.1,
      fresh.1,
      let listed = c.deref.ensures.value ∙ ap (λ (s : System). s.objects) c.sys.view_is in
          let parks = c.in_ok-add.ensures.parks in
          rw parks.are (parks-next c.args.sys.now.objects at.ringing.items parks.one at.invariant.6 (subst (λ (me : ℕ). ParksFor me parks.one) (c.object_at-me.ensures ∙ ap (λ ds. object_in_place ds c.len.result) listed ∙ ap (object_in_place c.args.sys.now.objects) (c.len.ensures ∙ at.ringing.ok.0)) parks.its)),
    )

pub returns-clause-lanes : goal.returns-clause-lanes
returns-clause-lanes c =
    let at = c.loop-lane in
    let none = c.in-None.ensures.steps in
    let empty : into_iter_items at.lane-iterator ≡ [] = nothing-left _ (sym at.invariant.2 ∙ none.0) in
    let all = sym (append-nil at.yielded) ∙ rw empty at at.invariant.0 in
    at.invariant.1 ∙ ap (map lane_view) all
