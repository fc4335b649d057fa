use Rattle.std.proofs.Common.{refl}
use Rattle.qp_commands.specs.WordTable.{number_of_form}
use Rattle.qp_run_parts.proofs.AbleLemmas.{sound-judgeable}
use Rattle.qp_run_parts.proofs.FormLemmas.{run-form, run-lawful, run-range}
use Rattle.qp_run_parts.proofs.PrintedLemmas.{journal-printed, memory-printed}
use Rattle.qp_run_parts.proofs.SealLemmas.{none-left, run-left}
use Rattle.qp_run_parts.specs.declared.status.Status.TheVariants.{Memory}
use Rattle.qp_run_parts.specs.Sealed.{journal_of_run, sealed_in}
use Rattle.qp_run_parts.proofs.runs.run_and_print.Goals as goal

pub print-status-requires-clause-form : goal.print-status-requires-clause-form
print-status-requires-clause-form g c =
    rw c.journal.ensures (run-form c.args.system.now c.args.stimuli.now c.args.budget (journal_of_run c.in-Ok.ran) c.requires.sound c.requires.fit.few c.requires.some c.requires.few
    c.args.kernel c.in-Ok.ensures.run c.args.form c.requires.form)

pub print-status-requires-clause-range : goal.print-status-requires-clause-range
print-status-requires-clause-range g c =
    rw c.journal.ensures (run-range c.args.system.now c.args.stimuli.now c.args.budget (journal_of_run c.in-Ok.ran) c.requires.sound c.requires.fit.few c.requires.some c.requires.few
    c.args.kernel c.in-Ok.ensures.run c.args.form c.requires.form)

pub print-status-requires-clause-followable : goal.print-status-requires-clause-followable
print-status-requires-clause-followable g c = (sound-judgeable c.args.system.now c.requires.sound).followable

pub print-status-requires-clause-lawful : goal.print-status-requires-clause-lawful
print-status-requires-clause-lawful g c =
    rw c.journal.ensures (c.args.stimuli.now, run-lawful c.args.system.now c.args.stimuli.now c.args.kernel c.args.budget (journal_of_run c.in-Ok.ran) c.in-Ok.ensures.run)

pub print-status-requires-clause-rests : goal.print-status-requires-clause-rests
print-status-requires-clause-rests g c = rw (c.journal.ensures, c.rests.ensures) c.in-Ok.ensures.rests

pub returns-in-Ok-clause-out : goal.returns-in-Ok-clause-out
returns-in-Ok-clause-out g c =
    let j = journal_of_run c.in-Ok.ran in
    rw c.finished.ensures.status (journal-printed c.args.system.now c.args.stimuli.now c.args.kernel c.args.budget j c.in-Ok.ensures.run
    c.args.output (number_of_form c.args.form) (run-form c.args.system.now c.args.stimuli.now c.args.budget j c.requires.sound c.requires.fit.few c.requires.some c.requires.few
    c.args.kernel c.in-Ok.ensures.run c.args.form c.requires.form) (run-range c.args.system.now c.args.stimuli.now c.args.budget j c.requires.sound c.requires.fit.few c.requires.some c.requires.few
    c.args.kernel c.in-Ok.ensures.run c.args.form c.requires.form) _ _ _ _ c.print-status.result (rw c.journal.ensures at c.print-status.ensures))

pub returns-in-Ok-clause-seal : goal.returns-in-Ok-clause-seal
returns-in-Ok-clause-seal g c =
    rw c.finished.ensures.status (run-left c.args.system.now c.args.stimuli.now c.args.kernel c.args.budget c.args.output (number_of_form c.args.form) _ _
    (journal_of_run c.in-Ok.ran) _ _ c.print-status.result (sealed_in c.in-Ok.ran) _ c.in-Ok.ensures.run c.in-Ok.ensures.sealed (rw c.journal.ensures at c.print-status.ensures) c.in-Ok.ensures.seal
    c.finished.ensures.seal)

pub returns-in-Err-clause-out : goal.returns-in-Err-clause-out
returns-in-Err-clause-out g c = memory-printed _ _ _

pub returns-in-Err-clause-seal : goal.returns-in-Err-clause-seal
returns-in-Err-clause-seal g c = none-left _ Memory _ refl
