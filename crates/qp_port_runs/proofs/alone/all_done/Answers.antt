use Rattle.std.proofs.Common.{◌≡◌, ◌∷◌, [], ◌++◌, map, length, sym, ap, ◌∙◌, append_assoc, append-nil, arith}
use Rattle.std.specs.Vec.Iter.{into_iter_items}
use Rattle.std.proofs.lemmas.List.{map-append}
use Rattle.qp_model.proofs.ListLemmas.{nothing-left}
use Rattle.qp_port_runs.proofs.alone.all_done.Goals as goal

pub loop-world-preserved : goal.loop-world-preserved
loop-world-preserved g c =
    let at = c.loop-world in
    let steps : into_iter_items at.world-iterator ≡ c.in-Some.world ∷ into_iter_items c.next.new.self = c.in-Some.ensures.steps.0 in (
      append_assoc at.yielded (c.in-Some.world ∷ []) _ ∙ rw (← steps) at.invariant.0,
      c.in-Ok.ensures.items ∙ ((λ i. at.invariant.1 i ++ c.done.ensures i ∷ []) ∙ sym (map-append (λ w. w.lane) at.yielded (c.in-Some.world ∷ []))),
      let was = at.invariant.2 in
          let gone = c.in-Some.ensures.steps.1 in
          let short = ap length steps in
          omega (arith, was, gone, short),
    )

pub returns : goal.returns
returns g c =
    let at = c.loop-world in
    let none = c.in-None.ensures.steps in
    let empty : into_iter_items at.world-iterator ≡ [] = nothing-left _ (sym at.invariant.2 ∙ none.0) in
    let all = sym (append-nil at.yielded) ∙ rw empty at at.invariant.0 in
    at.invariant.1 ∙ ap (map (λ w. w.lane)) all
