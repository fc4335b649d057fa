use Rattle.std.proofs.Common.{◌≡◌, ◌∷◌, [], ◌++◌, map, length, sym, ap, ◌∙◌, append_assoc, append-nil, arith}
use Rattle.std.specs.Vec.Iter.{into_iter_items}
use Rattle.std.proofs.lemmas.List.{map-append}
use Rattle.qp_model.proofs.ListLemmas.{nothing-left}
use Rattle.qp_port_runs.specs.Handed.{lane_view}
use Rattle.qp_wait.specs.Handed.{bell_view}
use Rattle.qp_wait_runs.proofs.ringing.all_done.Goals as goal

pub loop-one-preserved : goal.loop-one-preserved
loop-one-preserved c =
    let at = c.loop-one in
    let steps : into_iter_items at.one-iterator ≡ c.in-Some.one ∷ into_iter_items c.next.new.self = c.in-Some.ensures.steps.0 in (
      append_assoc at.yielded (c.in-Some.one ∷ []) _ ∙ rw (← steps) at.invariant.0,
      ap (map lane_view) c.in-Ok.ensures.items
          ∙ (map-append lane_view at.lanes.items (c.done.result ∷ [])
          ∙ (ap (λ vs. vs ++ lane_view c.done.result ∷ []) at.invariant.1
          ∙ (ap (λ x. map bell_view at.yielded ++ lane_view x ∷ []) c.done.ensures
          ∙ sym (map-append bell_view at.yielded (c.in-Some.one ∷ []))))),
      let was = at.invariant.2 in
          let gone = c.in-Some.ensures.steps.1 in
          let short = ap length steps in
          omega (arith, was, gone, short),
    )

pub returns : goal.returns
returns c =
    let at = c.loop-one in
    let none = c.in-None.ensures.steps in
    let empty : into_iter_items at.one-iterator ≡ [] = nothing-left _ (sym at.invariant.2 ∙ none.0) in
    let all = sym (append-nil at.yielded) ∙ rw empty at at.invariant.0 in
    at.invariant.1 ∙ ap (map bell_view) all
