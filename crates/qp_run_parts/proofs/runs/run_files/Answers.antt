use Rattle.qp_commands.specs.WordTable.{number_of_form}
use Rattle.qp_run_parts.proofs.PrintedLemmas.{files-printed, run-about, run-cause, run-told}
use Rattle.qp_run_parts.proofs.SealLemmas.{left-as, refused-left}
use Rattle.qp_run_parts.proofs.VerdictLemmas.{told-run}
use Rattle.qp_run_parts.proofs.runs.run_files.Goals as goal

pub returns-in-Ok-clause-told : goal.returns-in-Ok-clause-told
returns-in-Ok-clause-told g c =
    told-run _ c.args.system.now c.args.stimuli.now c.args.kernel c.args.budget c.in-Ok.input.system c.in-Ok.input.stimuli c.run_and_print.result.status c.in-Ok.ensures.input
    (run-told c.in-Ok.input.system c.in-Ok.input.stimuli c.args.kernel c.args.budget c.args.output (number_of_form c.args.form) _ _ _ _ c.run_and_print.result.status c.run_and_print.ensures.out)

pub returns-in-Ok-clause-about : goal.returns-in-Ok-clause-about
returns-in-Ok-clause-about g c =
    run-about c.in-Ok.input.system c.in-Ok.input.stimuli c.args.kernel c.args.budget c.args.output (number_of_form c.args.form) _ _ _ _ c.run_and_print.result.status c.run_and_print.ensures.out

pub returns-in-Ok-clause-cause : goal.returns-in-Ok-clause-cause
returns-in-Ok-clause-cause g c =
    run-cause c.in-Ok.input.system c.in-Ok.input.stimuli c.args.kernel c.args.budget c.args.output (number_of_form c.args.form) _ _ _ _ c.run_and_print.result.status c.run_and_print.ensures.out _ _

pub returns-in-Ok-clause-out : goal.returns-in-Ok-clause-out
returns-in-Ok-clause-out g c =
    files-printed c.in-Ok.input.system c.in-Ok.input.stimuli c.args.kernel c.args.budget c.args.output (number_of_form c.args.form) _ _ _ _ c.run_and_print.result.status
    _ c.args.system.now c.args.stimuli.now c.in-Ok.ensures.input c.run_and_print.ensures.out

pub returns-in-Ok-clause-seal : goal.returns-in-Ok-clause-seal
returns-in-Ok-clause-seal g c =
    left-as _ _ _ _ _ (λ j is. record { sys = c.in-Ok.input.system; sources = c.in-Ok.input.stimuli; input = c.in-Ok.ensures.input; is = is }) c.run_and_print.ensures.seal

pub returns-in-Err-clause-seal : goal.returns-in-Err-clause-seal
returns-in-Err-clause-seal g c = refused-left _ _ _ c.in-Err.ensures.about.0
