use Rattle.std.proofs.Common.{◌≡◌, ◌+◌, ◌∙◌, ◌++◌, ◌∷◌, ap, arith, rules, subst, sym}
use Rattle.std.specs.Prelude.{codes, decimal, string_bytes}
use Rattle.qp_model.specs.History.{lane_items}
use Rattle.qp_model.specs.Home.{by_object, home_of, lane_at}
use Rattle.qp_model.specs.Lawful.{facts_of}
use Rattle.qp_summary.specs.Resting.{LeavesRest}
use Rattle.qp_summary.proofs.KnownLemmas.{found-rest, its-done, its-taken, known-line}
use Rattle.qp_summary.proofs.known.known_line.Goals as goal

pub overflow_add-taken : goal.overflow_add-taken
overflow_add-taken c =
    let less = (c.in-Some-taken.ensures (lane_items (lane_at c.args.j.now (home_of c.args.sys.now c.args.j.now c.args.d.now.priority))) c.requires.turns).1.less in
    record { fits = omega (arith, less) }

pub returns-in_ok-line_of-in-Some-2 : goal.returns-in_ok-line_of-in-Some-2
returns-in_ok-line_of-in-Some-2 c =
    let sys = c.args.sys.now in
    let j = c.args.j.now in
    let d = c.args.d.now in
    let chart = c.in-Some.chart.now in
    let items = lane_items (lane_at j (home_of sys j d.priority)) in
    let its = by_object (facts_of sys j) j d.priority in
    let took = (c.in-Some-taken.ensures items c.requires.turns).1.is in
    let dones = (c.in-Some-done.ensures items c.requires.turns).1.is in
    let own = sym c.in-Some.ensures in
    let rest = subst (LeavesRest sys d chart its) (sym c.rest_at.ensures) (found-rest sys d chart its c.args.rests.now own c.requires.rests) in
    let state = (rw c.in-Some-2.is at c.in_ok-text-in-Some-done.ensures) sys d its own (its-done sys j d.priority c.in-Some-taken.taken c.in-Some-done.done took dones) rest in
    let name : c.as_str.result.now ≡ d.name = search rules in
    let text : c.deref.result.now ≡ string_bytes c.in-Some-2.text = search rules in
    known-line sys j d (string_bytes c.in-Some-2.text) (string_bytes c.in_ok-line_of-in-Some-2.field-0) c.in-Some-taken.taken
    (its-taken sys j d.priority c.in-Some-taken.taken c.in-Some-done.done took dones) state
    (c.in_ok-line_of-in-Some-2.ensures ∙ ap (λ n. codes "object " ++ n ++ 32 ∷ decimal c.in-Some-taken.taken ++ 32 ∷ c.deref.result.now ++ codes "\n") name
    ∙ ap (λ t. codes "object " ++ d.name ++ 32 ∷ decimal c.in-Some-taken.taken ++ 32 ∷ t ++ codes "\n") text)
