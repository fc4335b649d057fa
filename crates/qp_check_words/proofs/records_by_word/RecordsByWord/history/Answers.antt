use Rattle.std.proofs.Common.{◌≡◌, ◌∙◌, ◌≤◌, ◌^◌, ap, arith}
use Rattle.qp_model.specs.History.{all_items, total}
use Rattle.qp_model.specs.Touches.{as_word}
use Rattle.qp_check_words.specs.Marks.{draw_count, history_of}
use Rattle.qp_check_words.proofs.NumberLemmas.{history-touched, total-touched}
use Rattle.qp_check_words.proofs.records_by_word.RecordsByWord.history.Goals as goal

pub returns : goal.returns
returns c =
    let w = as_word c.args.word in
    let items = all_items c.args.self.now in
    let same : draw_count c.on.result.now ≡ total w items = ap draw_count c.on.ensures ∙ total-touched w items in
    let few : total w items ≤ 2 ^ 64 = omega (arith, same, c.history.ensures.few) in
    c.in_ok-found.ensures.history ∙ ap history_of c.on.ensures ∙ history-touched w items few
