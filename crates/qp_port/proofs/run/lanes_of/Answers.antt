use Rattle.std.proofs.Common.{◌≡◌, ◌∷◌, [], ◌++◌, map, length, sym, ap, ◌∙◌, append_assoc, append-nil, arith}
use Rattle.std.specs.Vec.Iter.{into_iter_items}
use Rattle.std.proofs.lemmas.List.{map-append}
use Rattle.qp_model.proofs.ListLemmas.{nothing-left}
use Rattle.qp_port.proofs.run.lanes_of.Goals as goal

pub loop-worker-preserved : goal.loop-worker-preserved
loop-worker-preserved g c =
    let at = c.loop-worker in
    let steps : into_iter_items at.worker-iterator ≡ c.in-Some.worker ∷ into_iter_items c.next.new.self = c.in-Some.ensures.steps.0 in (
      append_assoc at.yielded (c.in-Some.worker ∷ []) _ ∙ rw (← steps) at.invariant.0,
      c.in-Ok.ensures.items ∙ ap (λ xs. xs ++ c.in-Some.worker.lane ∷ []) at.invariant.1 ∙ sym (map-append (λ w. w.lane) at.yielded (c.in-Some.worker ∷ [])),
      let was = at.invariant.2 in
          let gone = c.in-Some.ensures.steps.1 in
          let short = ap length steps in
          omega (arith, was, gone, short),
    )

pub returns : goal.returns
returns g c =
    let at = c.loop-worker in
    let none = c.in-None.ensures.steps in
    let empty : into_iter_items at.worker-iterator ≡ [] = nothing-left _ (sym at.invariant.2 ∙ none.0) in
    let all = sym (append-nil at.yielded) ∙ rw empty at at.invariant.0 in
    at.invariant.1 ∙ ap (map (λ w. w.lane)) all
