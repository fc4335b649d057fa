use Rattle.std.proofs.Common.{◌∷◌, [], ◌+◌, ◌%◌, map}
use Rattle.qp_model.specs.Kinds.{LANE}
use Rattle.qp_model.specs.Output.{item, record_item}
use Rattle.qp_model.specs.OutputFrames.{frame, frames_from}
use Rattle.qp_text.proofs.PutsLemmas.{Puts-then}
use Rattle.qp_frames.proofs.writer.put_lane.Goals as goal

pub returns-clause-puts : goal.returns-clause-puts
returns-clause-puts g c =
    Puts-then c.put_records.result (frame c.args.form c.args.sequence (item LANE (c.args.number ∷ [])))
    (frames_from c.args.form ((c.args.sequence + 1) % 256) (map record_item c.args.lane.now)) _ _ _ _ _ _
    c.in_ok-put_frame.ensures.0 c.in_ok-put_frame.ensures.1 c.put_records.ensures.puts
