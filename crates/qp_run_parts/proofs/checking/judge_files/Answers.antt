use Rattle.std.proofs.Common.{◌∙◌, rules}
use Rattle.qp_run_parts.specs.Verdict.{AgreesCheck}
use Rattle.qp_commands.specs.WordTable.{check_words}
use Rattle.qp_run_parts.proofs.CheckLemmas.{are-lawful, judged-third, told-first, told-judged, told-second, told-stimuli, told-system, told-third}
use Rattle.qp_run_parts.proofs.checking.judge_files.Goals as goal

pub returns-in_err-bytes-clause-told : goal.returns-in_err-bytes-clause-told
returns-in_err-bytes-clause-told g c =
    let status = c.in_err-bytes.field-0.0 in
    let fact : AgreesCheck (g.F.Shelf.holds c.args.files.now) (check_words c.args.system.now c.args.stimuli.now c.args.journal.now) status =
    told-first _ _ _ _ status c.in_err-bytes.ensures.told in
    search (rules, fact)

pub returns-in_err-system-clause-told : goal.returns-in_err-system-clause-told
returns-in_err-system-clause-told g c =
    let status = c.in_err-system.field-0.0 in
    let fact : AgreesCheck (g.F.Shelf.holds c.args.files.now) (check_words c.args.system.now c.args.stimuli.now c.args.journal.now) status =
    told-system _ _ _ _ c.in_ok-bytes.bytes.items c.in_ok-bytes.ensures.held status (rw c.as_slice.ensures.value at c.in_err-system.ensures.told) in
    search (rules, fact)

pub returns-in_err-bytes-2-clause-told : goal.returns-in_err-bytes-2-clause-told
returns-in_err-bytes-2-clause-told g c =
    let status = c.in_err-bytes-2.field-0.0 in
    let fact : AgreesCheck (g.F.Shelf.holds c.args.files.now) (check_words c.args.system.now c.args.stimuli.now c.args.journal.now) status =
    told-second _ _ _ _ c.in_ok-bytes.bytes.items c.in_ok-bytes.ensures.held
    c.in_ok-system.system (rw c.as_slice.ensures.value at c.in_ok-system.ensures.read) status (rw c.load.ensures.holds at c.in_err-bytes-2.ensures.told) in
    search (rules, fact)

pub returns-in_err-stimuli-clause-told : goal.returns-in_err-stimuli-clause-told
returns-in_err-stimuli-clause-told g c =
    let status = c.in_err-stimuli.field-0.0 in
    let fact : AgreesCheck (g.F.Shelf.holds c.args.files.now) (check_words c.args.system.now c.args.stimuli.now c.args.journal.now) status =
    told-stimuli _ _ _ _ c.in_ok-bytes.bytes.items c.in_ok-bytes.ensures.held
    c.in_ok-system.system (rw c.as_slice.ensures.value at c.in_ok-system.ensures.read)
    c.in_ok-bytes-2.bytes.items (rw c.load.ensures.holds at c.in_ok-bytes-2.ensures.held) status
    (rw c.as_slice-2.ensures.value at c.in_err-stimuli.ensures.told) in
    search (rules, fact)

pub returns-in_err-bytes-3-clause-told : goal.returns-in_err-bytes-3-clause-told
returns-in_err-bytes-3-clause-told g c =
    let status = c.in_err-bytes-3.field-0.0 in
    let fact : AgreesCheck (g.F.Shelf.holds c.args.files.now) (check_words c.args.system.now c.args.stimuli.now c.args.journal.now) status =
    told-third _ _ _ _ c.in_ok-bytes.bytes.items c.in_ok-bytes.ensures.held
    c.in_ok-system.system (rw c.as_slice.ensures.value at c.in_ok-system.ensures.read)
    c.in_ok-bytes-2.bytes.items (rw c.load.ensures.holds at c.in_ok-bytes-2.ensures.held)
    c.in_ok-stimuli.stimuli (rw c.as_slice-2.ensures.value at c.in_ok-stimuli.ensures.read) status
    (rw (c.load-2.ensures.holds ∙ c.load.ensures.holds) at c.in_err-bytes-3.ensures.told) in
    search (rules, fact)

pub returns-in_err-found-clause-told : goal.returns-in_err-found-clause-told
returns-in_err-found-clause-told g c =
    let status = c.in_err-found.field-0.0 in
    let fact : AgreesCheck (g.F.Shelf.holds c.args.files.now) (check_words c.args.system.now c.args.stimuli.now c.args.journal.now) status =
    told-judged _ _ _ _ c.in_ok-bytes.bytes.items c.in_ok-bytes.ensures.held
    c.in_ok-system.system (rw c.as_slice.ensures.value at c.in_ok-system.ensures.read)
    c.in_ok-bytes-2.bytes.items (rw c.load.ensures.holds at c.in_ok-bytes-2.ensures.held)
    c.in_ok-stimuli.stimuli (rw c.as_slice-2.ensures.value at c.in_ok-stimuli.ensures.read)
    c.in_ok-bytes-3.bytes.items (rw (c.load-2.ensures.holds ∙ c.load.ensures.holds) at c.in_ok-bytes-3.ensures.held) status
    (rw c.as_slice-3.ensures.value at c.in_err-found.ensures.told) in
    search (rules, fact)

pub returns-clause-lawful : goal.returns-clause-lawful
returns-clause-lawful g c =
    are-lawful _ _ c.in_ok-bytes.bytes.items c.in_ok-bytes-2.bytes.items c.in_ok-bytes-3.bytes.items c.in_ok-system.system c.in_ok-stimuli.stimuli
    c.in_ok-found.found.form c.in_ok-found.found.journal
    c.in_ok-bytes.ensures.held (rw c.load.ensures.holds at c.in_ok-bytes-2.ensures.held) (rw (c.load-2.ensures.holds ∙ c.load.ensures.holds) at c.in_ok-bytes-3.ensures.held)
    (rw c.as_slice.ensures.value at c.in_ok-system.ensures.read) (rw c.as_slice-2.ensures.value at c.in_ok-stimuli.ensures.read)
    (rw c.as_slice-3.ensures.value at c.in_ok-found.ensures.lawful)

pub returns-clause-done : goal.returns-clause-done
returns-clause-done g c =
    judged-third _ _ _ _ c.in_ok-bytes.bytes.items c.in_ok-bytes.ensures.held
    c.in_ok-system.system (rw c.as_slice.ensures.value at c.in_ok-system.ensures.read)
    c.in_ok-bytes-2.bytes.items (rw c.load.ensures.holds at c.in_ok-bytes-2.ensures.held)
    c.in_ok-stimuli.stimuli (rw c.as_slice-2.ensures.value at c.in_ok-stimuli.ensures.read)
    c.in_ok-bytes-3.bytes.items (rw (c.load-2.ensures.holds ∙ c.load.ensures.holds) at c.in_ok-bytes-3.ensures.held) _
    (rw c.as_slice-3.ensures.value at c.in_ok-found.ensures.done)
