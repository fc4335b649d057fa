use Rattle.std.proofs.Common.{◌∙◌, ◌++◌, ◌∷◌, [], map}
use Rattle.std.proofs.lemmas.Result.{err_from_is_err_and}
use Rattle.qp_chart_names.specs.declared.place.Part.TheVariants.{Key}
use Rattle.qp_system_tables.specs.Tree.{each}
use Rattle.qp_system_tables.specs.Front.{table_members}
use Rattle.qp_system_tables.proofs.FrontLemmas.{each-refused, each-read, each-whole}
use Rattle.qp_system_tables.proofs.entries.entries.Goals as goal

pub returns-in_err-read : goal.returns-in_err-read
returns-in_err-read g c =
    let place = c.args.place.at.now ++ Key c.args.place.key ∷ [] in
    let whole = each g.T.TableEntry.reading place 1 (map table_members c.args.tables.now) in
    let p = err_from_is_err_and c.from_residual.result c.from_residual.ensures.1 in
    rw (p.1, p.2)
    (each-refused g.T.TableEntry.reading place c.loop-i.items.items c.loop-i.i c.args.tables.now c.index-tables-i.result c.as_slice-at.result.now
    c.in_err-read.field-0.0 whole c.loop-i-test.true c.index-tables-i.is (c.as_slice-at.ensures.value ∙ c.item-path.ensures) c.loop-i.invariant c.in_err-read.ensures)

pub loop-i-preserved : goal.loop-i-preserved
loop-i-preserved g c =
    let place = c.args.place.at.now ++ Key c.args.place.key ∷ [] in
    let whole = each g.T.TableEntry.reading place 1 (map table_members c.args.tables.now) in
    each-read g.T.TableEntry.reading place c.loop-i.items.items c.push.new.self.items c.in_ok-read.field-0 c.loop-i.i c.args.tables.now c.index-tables-i.result
    c.as_slice-at.result.now whole c.loop-i-test.true c.index-tables-i.is (c.as_slice-at.ensures.value ∙ c.item-path.ensures) c.loop-i.invariant
    c.in_ok-read.ensures c.in_ok-push.ensures.items

pub returns : goal.returns
returns g c =
    let place = c.args.place.at.now ++ Key c.args.place.key ∷ [] in
    let whole = each g.T.TableEntry.reading place 1 (map table_members c.args.tables.now) in
    each-whole g.T.TableEntry.reading place c.loop-i.items.items c.loop-i.i c.args.tables.now whole c.loop-i-test.false c.loop-i.invariant
