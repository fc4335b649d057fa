use Rattle.std.proofs.Common.{◌∷◌, [], ◌++◌, List}
use Rattle.std.proofs.lemmas.Result.{err_from_is_err_and}
use Rattle.qp_model.specs.declared.journals.Journal.{Journal}
use Rattle.qp_model.specs.Output.{JournalItem, end_item, head_item, items_of_lanes}
use Rattle.qp_model.specs.OutputFrames.{frame, frames_from}
use Rattle.qp_text.proofs.PutsLemmas.{Puts-then, prefix-longer, prefix-then}
use Rattle.qp_frames.specs.Sequence.{sequence_behind}
use Rattle.qp_frames.proofs.FrameLemmas.{frames-append, frames-cut_first, frames-one}
use Rattle.qp_frames.proofs.writer.write_frames.Goals as goal

-- what stands between the first frame and the last
abbrev between : Journal → List JournalItem
between j = items_of_lanes 0 j.lanes

pub returns-in_err-put_head : goal.returns-in_err-put_head
returns-in_err-put_head g c =
    let form = c.args.form in
    let j = c.args.j.now in
    let p = err_from_is_err_and c.from_residual.result c.from_residual.ensures.1 in
    rw p.1 (
      prefix-longer (frame form 1 (head_item form j)) (frames_from form 2 (between j ++ end_item j ∷ [])) _ _ c.in_err-put_head.ensures.0,
      c.in_err-put_head.ensures.1,
    )

pub returns-in_err-next : goal.returns-in_err-next
returns-in_err-next g c =
    let form = c.args.form in
    let j = c.args.j.now in
    let p = err_from_is_err_and c.from_residual-in_err-next.result c.from_residual-in_err-next.ensures.1 in
    rw p.1 (
      prefix-then (frame form 1 (head_item form j)) (frames_from form 2 (between j ++ end_item j ∷ [])) _ _ _ c.in_ok-put_head.ensures.0
          (frames-cut_first form 2 (between j) (end_item j ∷ []) _ _ c.in_err-next.ensures.puts.0),
      rw (← c.in_ok-put_head.ensures.1) c.in_err-next.ensures.puts.1,
    )

pub returns : goal.returns
returns g c =
    let form = c.args.form in
    let j = c.args.j.now in
    let last = frame form (sequence_behind 2 (between j)) (end_item j) in
    Puts-then c.put_end.result (frame form 1 (head_item form j)) (frames_from form 2 (between j ++ end_item j ∷ [])) _ _ _ _ _ _
    c.in_ok-put_head.ensures.0 c.in_ok-put_head.ensures.1
    (rw (frames-append form 2 (between j) (end_item j ∷ []), frames-one form (sequence_behind 2 (between j)) (end_item j))
    (Puts-then c.put_end.result (frames_from form 2 (between j)) last _ _ _ _ _ _
    c.in_ok-next.ensures.puts.0 c.in_ok-next.ensures.puts.1 (rw c.in_ok-next.ensures.next at c.put_end.ensures)))
