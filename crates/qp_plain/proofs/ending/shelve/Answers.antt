use Rattle.std.proofs.Common.{◌≡◌, ◌+◌, ◌<◌, ◌≤◌, ◌∷◌, [], ◌++◌, ℕ, List, map, length, sym, ap, ◌∙◌, append_assoc, append-nil, length-append, arith}
use Rattle.std.specs.Vec.{vec_capacity}
use Rattle.std.specs.Vec.Iter.{into_iter_items}
use Rattle.std.proofs.lemmas.List.{map-append, length-map}
use Rattle.qp_model.specs.declared.record.Rec.{Rec}
use Rattle.qp_calls_log.specs.declared.log.Log.{Log}
use Rattle.qp_plain.specs.Books.{log_recs}
use Rattle.qp_plain.proofs.ending.shelve.Goals as goal
use Rattle.qp_model.proofs.ListLemmas.{nothing-left}

-- one more lane
one-more : (front : List (List Rec)) (gs : List Log) (g : Log) (now new : List (List Rec)) → now ≡ front ++ map log_recs gs → new ≡ now ++ log_recs g ∷ []
    → new ≡ front ++ map log_recs (gs ++ g ∷ [])
one-more front gs g now new was is =
    is ∙ ap (λ xs. xs ++ log_recs g ∷ []) was ∙ append_assoc front (map log_recs gs) (log_recs g ∷ []) ∙ ap (λ xs. front ++ xs) (sym (map-append log_recs gs (g ∷ [])))

-- there is room for one more
has-room : (gs : List Log) (rest : List Log) (g : Log) (later all : List Log) (front now : List (List Rec)) (room : ℕ) → gs ++ rest ≡ all → rest ≡ g ∷ later → now ≡ front ++ map log_recs gs
    → length front + length all ≤ room → length now < room
has-room gs rest g later all front now room is steps was fits =
    let whole = ap (λ (xs : List Log). length xs) is in
    let both = length-append gs rest in
    let some = ap (λ (xs : List Log). length xs) steps in
    let long = ap (λ (xs : List (List Rec)). length xs) was in
    let sum = length-append front (map log_recs gs) in
    let same = length-map gs log_recs in
    omega (arith, whole, both, some, long, sum, same, fits)

pub push_reserved-requires : goal.push_reserved-requires
push_reserved-requires c =
    let at = c.loop-log in
    let now = has-room at.yielded (into_iter_items at.log-iterator) c.in-Some.log (into_iter_items c.next.new.self) c.args.logs.items c.args.room.items at.lanes.items (vec_capacity c.args.room)
    (at.invariant.0 ∙ c.into_iter-log-iterator.ensures.into_iter_gives.0) c.in-Some.ensures.steps.0 at.invariant.1 c.requires in
    let ok = at.lanes.ok in
    omega (arith, now, ok.0, at.invariant.2)

pub loop-log-preserved : goal.loop-log-preserved
loop-log-preserved c =
    let at = c.loop-log in
    let steps : into_iter_items at.log-iterator ≡ c.in-Some.log ∷ into_iter_items c.next.new.self = c.in-Some.ensures.steps.0 in (
      append_assoc at.yielded (c.in-Some.log ∷ []) _ ∙ rw (← steps) at.invariant.0,
      one-more _ at.yielded c.in-Some.log at.lanes.items _ at.invariant.1 c.push_reserved.ensures.items,
      c.push_reserved.ensures.capacity ∙ at.invariant.2,
      let was = at.invariant.3 in
          let gone = c.in-Some.ensures.steps.1 in
          let short = ap length steps in
          omega arith,
    )

pub returns : goal.returns
returns c =
    let at = c.loop-log in
    let none = c.in-None.ensures.steps in
    let empty : into_iter_items at.log-iterator ≡ [] = nothing-left _ (sym at.invariant.3 ∙ none.0) in
    let all = sym (append-nil at.yielded) ∙ rw empty at at.invariant.0 ∙ c.into_iter-log-iterator.ensures.into_iter_gives.0 in
    at.invariant.1 ∙ ap (λ gs. c.args.room.items ++ map log_recs gs) all
