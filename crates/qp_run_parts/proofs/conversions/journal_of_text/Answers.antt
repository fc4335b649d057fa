use Rattle.std.proofs.Common.{rules}
use Rattle.qp_text.proofs.TextRead.{reading_is_exact}
use Rattle.qp_run_parts.specs.Conversions.{RefusesFile, text_refusal}
use Rattle.qp_commands.specs.declared.values.Kind.TheVariants.{Journal}
use Rattle.qp_run_parts.proofs.ConversionLemmas.{text-refuses}
use Rattle.qp_run_parts.proofs.conversions.journal_of_text.Goals as goal

pub returns-in_err-read_journal-clause-refused : goal.returns-in_err-read_journal-clause-refused
returns-in_err-read_journal-clause-refused c =
    let fault = c.in_err-read_journal.field-0.0 in
    let fact : RefusesFile Journal c.args.bytes.now (text_refusal fault) = text-refuses fault c.args.bytes.now c.in_err-read_journal.ensures.exact in
    search (rules, fact)

pub returns-clause-journal : goal.returns-clause-journal
returns-clause-journal c = (reading_is_exact _ _ c.args.bytes.now).0 c.in_ok-read_journal.ensures.exact
