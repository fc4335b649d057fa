use Rattle.std.proofs.Common.{◌≡◌, ◌∙◌, ◌≤◌, ◌^◌, ap, arith}
use Rattle.qp_model.specs.History.{all_items, total}
use Rattle.qp_check_words.specs.Marks.{draw_count, numbers_hold, touched}
use Rattle.qp_check_words.proofs.NumberLemmas.{numbers-touched, total-touched}
use Rattle.qp_check_words.proofs.judge.numbered.Goals as goal

pub returns : goal.returns
returns c =
    let w = c.args.word in
    let items = all_items c.args.records.now in
    let on = c.on.ensures ∙ ap (λ v. touched v items) c.named.ensures in
    let same : draw_count c.on.result.now ≡ total w items = ap draw_count on ∙ total-touched w items in
    let few : total w items ≤ 2 ^ 64 = omega (arith, same, c.numbers_hold.ensures.few) in
    c.in_ok-holds.ensures.holds ∙ ap numbers_hold on ∙ numbers-touched w items few
