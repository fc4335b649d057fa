use Rattle.std.proofs.Common.{◌≡◌, ◌∙◌, ◌&&◌, ◌<◌, ◌^◌, ap, sym, refl, length, arith}
use Rattle.qp_model.specs.Record.{item_of}
use Rattle.qp_model.specs.History.{all_items, hist, marks_rise}
use Rattle.qp_check_words.specs.Marks.{touched}
use Rattle.qp_check_words.specs.Judging.{shown_at}
use Rattle.qp_check_words.specs.WordRules.{shown_right}
use Rattle.qp_check_lanes.proofs.WalkLemmas.{length_seen}
use Rattle.qp_check_words.proofs.WordLemmas.{shown-right}
use Rattle.qp_check_words.proofs.judge.shown_right.Goals as goal
use Rattle.qp_check_words.proofs.judge.shown_right.Goals.{then-shown, else-shown}

pub returns : goal.returns
returns c =
    let sys = c.args.sys.now in
    let lanes = c.args.records.now in
    let w = c.args.word in
    let items = all_items lanes in
    let own = c.named-own.ensures in
    let on = c.on-touched.ensures ∙ ap (λ v. touched v items) own in
    let read = c.in_ok-operations.ensures ∙ ap (λ v. hist v items) own in
    let seen = length_seen (λ r. item_of r.now) c.operations.view_is refl in
    let short : length (hist w items) < 2 ^ 64 = omega (arith, seen, ap length read, c.operations.inside.items.ok.0, c.operations.inside.items.small) in
    let shown : c.in_ok-shown.shown ≡ shown_right sys w items =
    c.in_ok-shown.ensures ∙ ap (λ t. shown_at sys w t c.in_ok-operations.operations) on ∙ ap (shown_at sys w _) read ∙ sym (shown-right sys w items short) in
    elim c.if-shown.branch [
      | then-shown w2 ↦ w2.result-is ∙ w2.rise.ensures ∙ ap (λ v. marks_rise v lanes) own ∙ ap (λ b. b && marks_rise w lanes) (sym w2.if-shown.true ∙ shown)
      | else-shown w2 ↦ w2.result-is ∙ w2.if-shown.false ∙ ap (λ b. b && marks_rise w lanes) (sym w2.if-shown.false ∙ shown)
    ]
