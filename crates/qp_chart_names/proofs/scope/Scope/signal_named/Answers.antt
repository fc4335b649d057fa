use Rattle.std.proofs.Common.{◌≡◌, Some, None, sym, ◌∙◌}
use Rattle.qp_chart_names.specs.declared.raw.SigName.{SigName}
use Rattle.qp_chart_names.specs.RawNumbers.{signal_named, signal_number}
use Rattle.qp_chart_names.proofs.NumberingLemmas.{number_at-range}
use Rattle.qp_chart_names.proofs.LookupLemmas.{copied-get}
use Rattle.qp_chart_names.proofs.scope.Scope.signal_named.Goals as goal

pub overflow_sub-number : goal.overflow_sub-number
overflow_sub-number c =
    let s = c.args.self.now in
    (number_at-range (λ (x : SigName). x.name) 4 s.names.now.signals s.tables.signals c.args.name.now c.in-Some.number s.tables_made.signals c.in-Some.ensures).0

pub returns-in-Some : goal.returns-in-Some
unfolding signal_named
returns-in-Some c =
    let s = c.args.self.now in
    let number : signal_number s.names.now c.args.name.now ≡ Some c.in-Some.number = sym (s.tables_made.signals c.args.name.now) ∙ sym c.in-Some.ensures in
    rw (number, ← c.as_slice.ensures) (copied-get c.as_slice.result.now _ c.get-in-Some.result c.get-in-Some.ensures.lookup)

pub returns-in-None : goal.returns-in-None
unfolding signal_named
returns-in-None c =
    let s = c.args.self.now in
    let number : signal_number s.names.now c.args.name.now ≡ None = sym (s.tables_made.signals c.args.name.now) ∙ sym c.in-None.ensures in
    rw number
