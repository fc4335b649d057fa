use Rattle.std.proofs.Common.{◌∙◌, ◌++◌, ◌∷◌, [], ap, sym, map, get_or, ℤ, pos, rules, w64}
use Rattle.std.proofs.lemmas.Int.{to_z-of_z}
use Rattle.std.proofs.lemmas.Result.{err_from_is_err_and}
use mir.Val.{SFits}
use Rattle.qp_chart_names.specs.declared.place.Part.TheVariants.{Key}
use Rattle.qp_system_tables.specs.Values.{named_vars}
use Rattle.qp_system_tables.proofs.VarsLemmas.{Pair, pair_view, named-refused, named-read, named-last}
use Rattle.qp_system_tables.proofs.vars.named.Goals as goal

none : Pair
none = (record { ref_ptr = (0, 0); now = [] }, pos 0)

pub returns-in_err-name : goal.returns-in_err-name
unfolding none
returns-in_err-name c =
    let place = c.args.place.at.now ++ Key c.args.place.key ∷ [] in
    let p = err_from_is_err_and c.from_residual.result c.from_residual.ensures.1 in
    rw (p.1, p.2)
    (named-refused place c.loop-text.items.items c.loop-text.text-index c.args.vars.now none c.in_err-name.field-0.0
    (named_vars place (map pair_view c.args.vars.now)) c.loop-text-test.true c.loop-text.invariant c.in_err-name.ensures)

pub loop-text-preserved : goal.loop-text-preserved
unfolding none
loop-text-preserved c =
    let place = c.args.place.at.now ++ Key c.args.place.key ∷ [] in
    let z = (get_or c.args.vars.now c.loop-text.text-index none).1 in
    let fits : SFits w64 z = search rules in
    named-read place c.loop-text.items.items c.push.new.self.items c.in_ok-name.name c.loop-text.text-index c.args.vars.now none
    (named_vars place (map pair_view c.args.vars.now)) c.loop-text-test.true c.loop-text.invariant c.in_ok-name.ensures
    (c.in_ok-push.ensures.items ∙ ap (λ (y : ℤ). c.loop-text.items.items ++ (c.in_ok-name.name, y) ∷ []) (to_z-of_z w64 z fits))

pub returns : goal.returns
returns c =
    let place = c.args.place.at.now ++ Key c.args.place.key ∷ [] in
    sym c.loop-text.invariant ∙ named-last place c.loop-text.items.items c.loop-text.text-index c.args.vars.now c.loop-text-test.false
