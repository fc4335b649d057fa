use Rattle.std.proofs.Common.{◌∙◌, sym}
use Rattle.std.proofs.lemmas.Result.{IfOk-weaker}
use Rattle.qp_commands.proofs.WordCommands.{asked-check, asked-decode, asked-generate, asked-migrate, asked-other, asked-replay, asked-run, command-first, command-none}
use Rattle.qp_commands.proofs.asking.command_of.Goals as goal

pub returns-in_default : goal.returns-in_default
returns-in_default c = sym (command-none c.args.words.now (sym c.in_default.ensures.value))

pub returns-in-run : goal.returns-in-run
returns-in-run c =
    let first = command-first c.args.words.now c.in-Some.word.now (sym c.in-Some.ensures.value) in
    IfOk-weaker c.asked.result _ _ (λ found h. h ∙ sym (first ∙ asked-run _ _ c.in-run.is)) c.asked.ensures

pub returns-in-decode : goal.returns-in-decode
returns-in-decode c =
    let first = command-first c.args.words.now c.in-Some.word.now (sym c.in-Some.ensures.value) in
    IfOk-weaker c.asked-in-decode.result _ _ (λ found h. h ∙ sym (first ∙ asked-decode _ _ c.in-decode.is)) c.asked-in-decode.ensures

pub returns-in-migrate : goal.returns-in-migrate
returns-in-migrate c =
    let first = command-first c.args.words.now c.in-Some.word.now (sym c.in-Some.ensures.value) in
    IfOk-weaker c.asked-in-migrate.result _ _ (λ found h. h ∙ sym (first ∙ asked-migrate _ _ c.in-migrate.is)) c.asked-in-migrate.ensures

pub returns-in-check : goal.returns-in-check
returns-in-check c =
    let first = command-first c.args.words.now c.in-Some.word.now (sym c.in-Some.ensures.value) in
    IfOk-weaker c.asked-in-check.result _ _ (λ found h. h ∙ sym (first ∙ asked-check _ _ c.in-check.is)) c.asked-in-check.ensures

pub returns-in-replay : goal.returns-in-replay
returns-in-replay c =
    let first = command-first c.args.words.now c.in-Some.word.now (sym c.in-Some.ensures.value) in
    IfOk-weaker c.asked-in-replay.result _ _ (λ found h. h ∙ sym (first ∙ asked-replay _ _ c.in-replay.is)) c.asked-in-replay.ensures

pub returns-in-gen : goal.returns-in-gen
returns-in-gen c =
    let first = command-first c.args.words.now c.in-Some.word.now (sym c.in-Some.ensures.value) in
    IfOk-weaker c.asked-in-gen.result _ _ (λ found h. h ∙ sym (first ∙ asked-generate _ _ c.in-gen.is)) c.asked-in-gen.ensures

pub returns-in_default-word : goal.returns-in_default-word
returns-in_default-word c =
    let first = command-first c.args.words.now c.in-Some.word.now (sym c.in-Some.ensures.value) in
    sym (first ∙ asked-other _ _ c.in_default-word.not-run c.in_default-word.not-decode c.in_default-word.not-migrate c.in_default-word.not-check c.in_default-word.not-replay
    c.in_default-word.not-gen)
