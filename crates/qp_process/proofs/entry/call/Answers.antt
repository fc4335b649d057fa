use Rattle.std.proofs.Common.{◌≡◌, ◌∙◌, ap, map, string_bytes}
use Rattle.qp_commands.specs.WordTable.{command_in, texts}
use Rattle.qp_run_parts.proofs.CallLemmas.{memory-call}
use Rattle.qp_process.specs.Process.{words_in}
use Rattle.qp_process.proofs.entry.call.Goals as goal

pub returns-in_default : goal.returns-in_default
returns-in_default g c =
    let asked = command_in (words_in c.args.args) in
    memory-call _ asked _ _ _ _ c.tell-status.ensures.answer (c.tell-status.ensures.notes asked)

pub returns-in_default-texts_of : goal.returns-in_default-texts_of
returns-in_default-texts_of g c =
    let asked = command_in (words_in c.args.args) in
    memory-call _ asked _ _ _ _ c.tell-status-in_default-texts_of.ensures.answer (c.tell-status-in_default-texts_of.ensures.notes asked)

pub returns-in-Pieces : goal.returns-in-Pieces
returns-in-Pieces g c =
    let same : texts c.as_slice-words.result.now ≡ words_in c.args.args =
    ap texts c.as_slice-words.ensures.value ∙ c.in-Ok-texts_of.ensures ∙ ap (map string_bytes) (c.as_slice.ensures.value ∙ c.in-Ok.ensures) in
    rw same at c.in_pieces.ensures.call

pub returns : goal.returns
returns g c =
    let same : texts c.as_slice-words.result.now ≡ words_in c.args.args =
    ap texts c.as_slice-words.ensures.value ∙ c.in-Ok-texts_of.ensures ∙ ap (map string_bytes) (c.as_slice.ensures.value ∙ c.in-Ok.ensures) in
    rw same at c.qp_main-status.ensures.call
