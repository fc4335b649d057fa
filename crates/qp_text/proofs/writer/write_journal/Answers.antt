use Rattle.std.proofs.Common.{◌≡◌, ◌∙◌, ◌++◌, ◌∷◌, [], List, ℕ, ap, append-nil}
use Rattle.std.proofs.lemmas.Result.{err_from_is_err_and}
use Rattle.std.proofs.lemmas.Grind.{flat_map-append}
use Rattle.qp_model.specs.declared.journals.Journal.{Journal}
use Rattle.qp_model.specs.Output.{JournalItem, end_item, head_item, items_of_lanes}
use Rattle.qp_model.specs.OutputText.{line_text, lines_text}
use Rattle.qp_text.proofs.PutsLemmas.{Puts-then, prefix-longer, prefix-then}
use Rattle.qp_text.proofs.writer.write_journal.Goals as goal

-- what stands between the first line and the last
abbrev between : Journal → List JournalItem
between j = items_of_lanes 0 j.lanes

-- the lanes and the last line
behind_head : (form : ℕ) (lanes : List JournalItem) (last : JournalItem)
    → lines_text form (lanes ++ last ∷ []) ≡ lines_text form lanes ++ line_text form last
behind_head form lanes last =
    flat_map-append (line_text form) lanes (last ∷ []) ∙ ap (λ t. lines_text form lanes ++ t) (append-nil (line_text form last))

pub returns-in_err-put_head : goal.returns-in_err-put_head
returns-in_err-put_head g c =
    let form = c.args.form in
    let j = c.args.j.now in
    let p = err_from_is_err_and c.from_residual.result c.from_residual.ensures.1 in
    rw p.1 (
      prefix-longer (line_text form (head_item form j)) (lines_text form (between j ++ end_item j ∷ [])) _ _ c.in_err-put_head.ensures.0,
      c.in_err-put_head.ensures.1,
    )

pub returns-in_err-put_lanes : goal.returns-in_err-put_lanes
returns-in_err-put_lanes g c =
    let form = c.args.form in
    let j = c.args.j.now in
    let p = err_from_is_err_and c.from_residual-in_err-put_lanes.result c.from_residual-in_err-put_lanes.ensures.1 in
    rw p.1 (
      prefix-then (line_text form (head_item form j)) (lines_text form (between j ++ end_item j ∷ [])) _ _ _ c.in_ok-put_head.ensures.0
          (rw (behind_head form (between j) (end_item j))
          (prefix-longer (lines_text form (between j)) (line_text form (end_item j)) _ _ c.in_err-put_lanes.ensures.0)),
      rw (← c.in_ok-put_head.ensures.1) c.in_err-put_lanes.ensures.1,
    )

pub returns : goal.returns
returns g c =
    let form = c.args.form in
    let j = c.args.j.now in
    Puts-then c.put_end.result (line_text form (head_item form j)) (lines_text form (between j ++ end_item j ∷ [])) _ _ _ _ _ _
    c.in_ok-put_head.ensures.0 c.in_ok-put_head.ensures.1
    (rw (behind_head form (between j) (end_item j))
    (Puts-then c.put_end.result (lines_text form (between j)) (line_text form (end_item j)) _ _ _ _ _ _
    c.in_ok-put_lanes.ensures.0 c.in_ok-put_lanes.ensures.1 c.put_end.ensures))
