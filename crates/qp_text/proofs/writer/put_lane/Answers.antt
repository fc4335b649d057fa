use Rattle.std.proofs.lemmas.Result.{err_from_is_err_and}
use Rattle.qp_text.proofs.PutsLemmas.{Puts-then, prefix-longer}
use Rattle.qp_text.proofs.writer.put_lane.Goals as goal

pub returns-in_err-put_line : goal.returns-in_err-put_line
returns-in_err-put_line g c =
    let p = err_from_is_err_and c.from_residual.result c.from_residual.ensures.1 in
    rw p.1 (prefix-longer _ _ _ _ c.in_err-put_line.ensures.0, c.in_err-put_line.ensures.1)

pub returns : goal.returns
returns g c = Puts-then c.put_records.result _ _ _ _ _ _ _ _ c.in_ok-put_line.ensures.0 c.in_ok-put_line.ensures.1 c.put_records.ensures
