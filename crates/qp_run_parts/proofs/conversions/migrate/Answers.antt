use Rattle.std.proofs.Common.{sym, ◌∙◌, inr}
use Rattle.qp_commands.specs.WordTable.{number_of_form}
use Rattle.qp_run_parts.proofs.FormLemmas.{range-moves}
use Rattle.qp_run_parts.proofs.ConversionLemmas.{migrate-done, migrate-refused, told-journal, told-written}
use Rattle.qp_run_parts.proofs.conversions.migrate.Goals as goal

pub write-requires-clause-range : goal.write-requires-clause-range
write-requires-clause-range g c =
    rw c.number.ensures (range-moves c.in-Ok.found.form c.args.to c.in-Ok.found.journal c.in-Ok.ensures.journal.writable.range (sym c.has_form.ensures ∙ c.if-has_form.true))

pub returns-then-has_form-clause-told : goal.returns-then-has_form-clause-told
returns-then-has_form-clause-told g c =
    told-written _ c.args.name.now _ _ _ _ c.write.result _ _ _ _ _ c.in-Ok.ensures.journal
    (migrate-done (number_of_form c.args.to) c.in-Ok.found.journal (sym c.has_form.ensures ∙ c.if-has_form.true)) c.write.ensures

pub returns-clause-told : goal.returns-clause-told
returns-clause-told g c =
    told-journal _ c.args.name.now _ _ _ _ _ c.in-Ok.ensures.journal
    (inr (migrate-refused (number_of_form c.args.to) c.in-Ok.found.journal (sym c.has_form.ensures ∙ c.if-has_form.false)))
