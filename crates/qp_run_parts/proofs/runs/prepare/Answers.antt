use Rattle.std.proofs.Common.{ℕ, rules}
use Rattle.qp_commands.specs.declared.values.KernelName.{KernelName}
use Rattle.qp_run_parts.specs.Verdict.{AgreesRun}
use Rattle.qp_run_parts.proofs.VerdictLemmas.{told-load, told-load-2, told-stimuli, told-system}
use Rattle.qp_run_parts.proofs.runs.prepare.Goals as goal

pub returns-in_err-bytes-clause-told : goal.returns-in_err-bytes-clause-told
returns-in_err-bytes-clause-told g c =
    let fact : (kernel : KernelName) (budget : ℕ) → AgreesRun (g.F.Shelf.holds c.args.files.now) c.args.system.now c.args.stimuli.now kernel budget c.in_err-bytes.field-0.0 =
    λ kernel budget. told-load _ _ _ kernel budget c.in_err-bytes.field-0.0 c.in_err-bytes.ensures.told in
    search (rules, fact)

pub returns-in_err-system-clause-told : goal.returns-in_err-system-clause-told
returns-in_err-system-clause-told g c =
    let fact : (kernel : KernelName) (budget : ℕ) → AgreesRun (g.F.Shelf.holds c.args.files.now) c.args.system.now c.args.stimuli.now kernel budget c.in_err-system.field-0.0 =
    λ kernel budget. told-system _ _ _ kernel budget c.in_ok-bytes.bytes.items c.in_ok-bytes.ensures.held c.in_err-system.field-0.0
    (rw c.as_slice.ensures.value at c.in_err-system.ensures.told) in
    search (rules, fact)

pub returns-in_err-bytes-2-clause-told : goal.returns-in_err-bytes-2-clause-told
returns-in_err-bytes-2-clause-told g c =
    let fact : (kernel : KernelName) (budget : ℕ) → AgreesRun (g.F.Shelf.holds c.args.files.now) c.args.system.now c.args.stimuli.now kernel budget c.in_err-bytes-2.field-0.0 =
    λ kernel budget. told-load-2 _ _ _ kernel budget c.in_ok-bytes.bytes.items c.in_ok-bytes.ensures.held
    c.in_ok-system.system (rw c.as_slice.ensures.value at c.in_ok-system.ensures.read) c.in_err-bytes-2.field-0.0
    (rw c.load.ensures.holds at c.in_err-bytes-2.ensures.told) in
    search (rules, fact)

pub returns-in_err-stimuli-clause-told : goal.returns-in_err-stimuli-clause-told
returns-in_err-stimuli-clause-told g c =
    let fact : (kernel : KernelName) (budget : ℕ) → AgreesRun (g.F.Shelf.holds c.args.files.now) c.args.system.now c.args.stimuli.now kernel budget c.in_err-stimuli.field-0.0 =
    λ kernel budget. told-stimuli _ _ _ kernel budget c.in_ok-bytes.bytes.items c.in_ok-bytes.ensures.held
    c.in_ok-system.system (rw c.as_slice.ensures.value at c.in_ok-system.ensures.read)
    c.in_ok-bytes-2.bytes.items (rw c.load.ensures.holds at c.in_ok-bytes-2.ensures.held) c.in_err-stimuli.field-0.0
    (rw c.as_slice-2.ensures.value at c.in_err-stimuli.ensures.told) in
    search (rules, fact)
