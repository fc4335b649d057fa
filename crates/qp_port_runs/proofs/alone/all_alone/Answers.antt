use Rattle.std.proofs.Common.{◌≡◌, ◌∷◌, [], ◌++◌, map, length, sym, ap, ◌∙◌, append_assoc, append-nil, arith}
use Rattle.std.specs.Vec.Iter.{into_iter_items}
use Rattle.std.proofs.lemmas.List.{map-append}
use Rattle.qp_model.proofs.ListLemmas.{nothing-left}
use Rattle.qp_port_runs.proofs.alone.all_alone.Goals as goal

pub loop-lane-preserved : goal.loop-lane-preserved
loop-lane-preserved g c =
    let at = c.loop-lane in
    let steps : into_iter_items at.lane-iterator ≡ c.in-Some.lane ∷ into_iter_items c.next.new.self = c.in-Some.ensures.steps.0 in (
      append_assoc at.yielded (c.in-Some.lane ∷ []) _ ∙ rw (← steps) at.invariant.0,
      ap (map (λ w. w.lane)) c.in-Ok.ensures.items ∙ (map-append (λ w. w.lane) at.worlds.items (c.new.result ∷ []) ∙ ((λ i. at.invariant.1 i ++ c.new.ensures i ∷ []))),
      let was = at.invariant.2 in
          let gone = c.in-Some.ensures.steps.1 in
          let short = ap length steps in
          omega (arith, was, gone, short),
    )

pub returns : goal.returns
returns g c =
    let at = c.loop-lane in
    let none = c.in-None.ensures.steps in
    let empty : into_iter_items at.lane-iterator ≡ [] = nothing-left _ (sym at.invariant.2 ∙ none.0) in
    let all = sym (append-nil at.yielded) ∙ rw empty at at.invariant.0 in
    at.invariant.1 ∙ all
