use Rattle.std.proofs.Common.{subst, inr}
use Rattle.qp_check.specs.Judged.{IsVerdict, trials}
use Rattle.qp_check_words.specs.declared.verdict.Verdict.TheVariants.{Lawful, Broken}
use Rattle.qp_run_parts.proofs.AbleLemmas.{sound-judgeable}
use Rattle.qp_run_parts.proofs.CheckLemmas.{found-judged, lawful-text, text-said}
use Rattle.qp_run_parts.proofs.checking.judge.Goals as goal

pub check-requires-clause-judgeable : goal.check-requires-clause-judgeable
check-requires-clause-judgeable c = sound-judgeable c.args.system.now c.requires.sound

pub returns-in-Ok-Lawful-clause-lawful : goal.returns-in-Ok-Lawful-clause-lawful
returns-in-Ok-Lawful-clause-lawful c =
    let found = c.in_ok-found.found in
    lawful-text c.args.system.now c.args.stimuli.now c.args.bytes.now found.form found.journal c.requires.sound c.in_ok-found.ensures.journal
    (subst (IsVerdict (trials c.args.system.now c.args.stimuli.now found.journal)) c.in-Ok-Lawful.field-0-is c.in-Ok-Lawful.ensures)

pub returns-in-Ok-Lawful-clause-done : goal.returns-in-Ok-Lawful-clause-done
returns-in-Ok-Lawful-clause-done c =
    let found = c.in_ok-found.found in
    found-judged c.args.system.now c.args.stimuli.now _ found.form found.journal Lawful (text-said found.form found.journal c.args.bytes.now c.in_ok-found.ensures.journal)
    (subst (IsVerdict (trials c.args.system.now c.args.stimuli.now found.journal)) c.in-Ok-Lawful.field-0-is c.in-Ok-Lawful.ensures)

pub returns-in-Ok-Broken-clause-told : goal.returns-in-Ok-Broken-clause-told
returns-in-Ok-Broken-clause-told c =
    let found = c.in_ok-found.found in
    inr
    (found-judged c.args.system.now c.args.stimuli.now _ found.form found.journal (Broken c.in-Ok-Broken.definition c.in-Ok-Broken.site)
    (text-said found.form found.journal c.args.bytes.now c.in_ok-found.ensures.journal)
    (subst (IsVerdict (trials c.args.system.now c.args.stimuli.now found.journal)) c.in-Ok-Broken.field-0-is c.in-Ok-Broken.ensures))
