use Rattle.qp_plain_sound.proofs.LawLemmas.{lane-gains, note-added, others-stay}
use Rattle.qp_plain_sound.proofs.laws.a_lane_gains_its_record.Goals as goal

pub returns : goal.returns
returns c = record { gains = lane-gains; note = note-added; others = others-stay }
