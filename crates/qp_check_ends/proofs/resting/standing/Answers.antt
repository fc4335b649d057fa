use Rattle.std.proofs.Common.{◌≡◌, ◌∙◌, true, ap}
use Rattle.std.specs.List.{list_all}
use Rattle.qp_model.specs.declared.words.Word.TheVariants as word
use Rattle.qp_model.specs.History.{all_items, hist, total}
use Rattle.qp_check_words.specs.Marks.{draw_count, touched}
use Rattle.qp_check_ends.specs.Resting.{makes_below}
use Rattle.qp_check_ends.proofs.DrawnBelowLemmas.{hist-below}
use Rattle.qp_check_words.proofs.NumberLemmas.{total-touched}
use Rattle.qp_check_ends.proofs.resting.standing.Goals as goal

pub after-requires : goal.after-requires
after-requires c =
    let w = word.Block c.args.p c.args.b in
    let items = all_items c.args.records.now in
    let size : c.draw_count-size.result ≡ total w items = c.draw_count-size.ensures ∙ ap draw_count (c.on.ensures ∙ ap (λ v. touched v items) c.named-own.ensures) ∙ total-touched w items in
    let below : list_all (λ i. makes_below c.draw_count-size.result i.body) c.in_ok-history.history ≡ true = rw (size, c.in_ok-history.ensures ∙ ap (λ v. hist v items) c.named-own.ensures) (hist-below w items) in
    below
