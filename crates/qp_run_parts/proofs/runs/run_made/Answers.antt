use Rattle.qp_run_parts.specs.Printed.{made_budget}
use Rattle.qp_commands.specs.declared.values.KernelName.TheVariants.{Sim}
use Rattle.qp_commands.specs.declared.values.Output.TheVariants.{Summary}
use Rattle.qp_run_parts.proofs.PrintedLemmas.{made-printed, made-told, run-about, run-cause}
use Rattle.qp_run_parts.proofs.runs.run_made.Goals as goal

pub returns-in-Ok-clause-told : goal.returns-in-Ok-clause-told
returns-in-Ok-clause-told g c =
    made-told c.args.number c.in-Ok.system c.in-Ok.stimuli c.in-Ok.ensures _ _ _ _ c.run_and_summarize.result c.run_and_summarize.ensures

pub returns-in-Ok-clause-about : goal.returns-in-Ok-clause-about
returns-in-Ok-clause-about g c =
    run-about c.in-Ok.system c.in-Ok.stimuli Sim made_budget Summary 1 _ _ _ _ c.run_and_summarize.result c.run_and_summarize.ensures

pub returns-in-Ok-clause-cause : goal.returns-in-Ok-clause-cause
returns-in-Ok-clause-cause g c = λ reads misses.
    run-cause c.in-Ok.system c.in-Ok.stimuli Sim made_budget Summary 1 _ _ _ _ c.run_and_summarize.result c.run_and_summarize.ensures reads misses

pub returns-in-Ok-clause-out : goal.returns-in-Ok-clause-out
returns-in-Ok-clause-out g c =
    made-printed c.args.number c.in-Ok.system c.in-Ok.stimuli c.in-Ok.ensures _ _ _ _ c.run_and_summarize.result c.run_and_summarize.ensures
