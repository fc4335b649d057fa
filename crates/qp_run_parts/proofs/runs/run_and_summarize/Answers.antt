use Rattle.std.proofs.Common.{arith, refl}
use Rattle.qp_commands.specs.declared.values.KernelName.TheVariants.{Sim}
use Rattle.qp_commands.specs.declared.values.Form.TheVariants.{One}
use Rattle.qp_commands.specs.declared.values.Output.TheVariants.{Summary}
use Rattle.qp_run_parts.specs.Printed.{made_budget}
use Rattle.qp_run_parts.proofs.AbleLemmas.{sound-judgeable}
use Rattle.qp_run_parts.proofs.FormLemmas.{run-form, run-range}
use Rattle.qp_run_parts.proofs.PrintedLemmas.{journal-printed, memory-printed}
use Rattle.qp_run_parts.proofs.runs.run_and_summarize.Goals as goal

pub print-requires-clause-form : goal.print-requires-clause-form
print-requires-clause-form g c =
    run-form c.args.system.now c.args.stimuli.now made_budget c.in-Ok.ran.journal c.requires.sound c.requires.fit.few (omega arith) (omega arith)
    Sim c.in-Ok.ensures.run One refl

pub print-requires-clause-range : goal.print-requires-clause-range
print-requires-clause-range g c =
    run-range c.args.system.now c.args.stimuli.now made_budget c.in-Ok.ran.journal c.requires.sound c.requires.fit.few (omega arith) (omega arith)
    Sim c.in-Ok.ensures.run One refl

pub print-requires-clause-followable : goal.print-requires-clause-followable
print-requires-clause-followable g c = (sound-judgeable c.args.system.now c.requires.sound).followable

pub print-requires-clause-lawful : goal.print-requires-clause-lawful
print-requires-clause-lawful g c = (c.args.stimuli.now, c.in-Ok.ensures.run.run.lawful)

pub returns-in-Ok : goal.returns-in-Ok
returns-in-Ok g c =
    journal-printed c.args.system.now c.args.stimuli.now Sim made_budget c.in-Ok.ran.journal c.in-Ok.ensures.run Summary 1
    (run-form c.args.system.now c.args.stimuli.now made_budget c.in-Ok.ran.journal c.requires.sound c.requires.fit.few (omega arith) (omega arith) Sim c.in-Ok.ensures.run One refl)
    (run-range c.args.system.now c.args.stimuli.now made_budget c.in-Ok.ran.journal c.requires.sound c.requires.fit.few (omega arith) (omega arith) Sim c.in-Ok.ensures.run One refl)
    _ _ _ _ c.print.result c.print.ensures

pub returns-in-Err : goal.returns-in-Err
returns-in-Err g c = memory-printed _ _ _
