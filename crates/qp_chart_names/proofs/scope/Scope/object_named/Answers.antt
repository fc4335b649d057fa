use Rattle.std.proofs.Common.{◌≡◌, Some, None, sym, ◌∙◌}
use Rattle.qp_chart_names.specs.Numbering.{number_in}
use Rattle.qp_chart_names.specs.RawNumbers.{object_named, object_names}
use Rattle.qp_chart_names.proofs.LookupLemmas.{copied-get}
use Rattle.qp_chart_names.proofs.scope.Scope.object_named.Goals as goal

pub returns-in-Some : goal.returns-in-Some
unfolding object_named
returns-in-Some c =
    let s = c.args.self.now in
    let number : number_in 0 (object_names s.names.now.objects) c.args.name.now ≡ Some c.in-Some.place = sym (s.tables_made.objects c.args.name.now) ∙ sym c.in-Some.ensures in
    rw (number, ← c.as_slice.ensures) (copied-get c.as_slice.result.now _ c.get-in-Some.result c.get-in-Some.ensures.lookup)

pub returns-in-None : goal.returns-in-None
unfolding object_named
returns-in-None c =
    let s = c.args.self.now in
    let number : number_in 0 (object_names s.names.now.objects) c.args.name.now ≡ None = sym (s.tables_made.objects c.args.name.now) ∙ sym c.in-None.ensures in
    rw number
