use Rattle.qp_run_parts.proofs.PrintedLemmas.{summary-failed, summary-memory, summary-printed}
use Rattle.qp_run_parts.proofs.runs.summarize.Goals as goal

pub returns-in-Ok : goal.returns-in-Ok
returns-in-Ok g c = λ form.
    summary-printed c.args.system.now c.args.journal.now c.args.told c.requires.told _ _ _ _ form _ c.in-Ok.ensures

pub returns-in-Err-Memory : goal.returns-in-Err-Memory
returns-in-Err-Memory g c = λ form.
    summary-memory c.args.system.now c.args.journal.now c.args.told c.requires.told _ _ _ _ form _ (rw c.in-Err-Memory.field-0-is at c.in-Err-Memory.ensures)

pub returns-in-Err-Failed : goal.returns-in-Err-Failed
returns-in-Err-Failed g c = λ form.
    summary-failed c.args.system.now c.args.journal.now c.args.told c.requires.told _ _ _ _ form _ (rw c.in-Err-Failed.field-0-is at c.in-Err-Failed.ensures)
