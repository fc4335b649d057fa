use Rattle.std.proofs.Common.{◌≡◌, ◌≤◌, refl, ◌∙◌, ap, arith, inr}
use Rattle.qp_model.specs.declared.record.Rec.{Rec}
use Rattle.qp_model.specs.declared.bodies.Body.TheVariants.{Spent}
use Rattle.qp_model.specs.Record.{body_of}
use Rattle.qp_model.specs.Told.{for_object}
use Rattle.qp_model.proofs.RecordLemmas.{body-is}
use Rattle.qp_calls.specs.LaneView.{LaneView, GrowsOf, ceiling_in}
use Rattle.qp_calls.specs.Notes.{last_code, stop_code, note_told, told_note}
use Rattle.qp_calls.proofs.NoteLemmas.{last-snoc}
use Rattle.qp_calls.proofs.Noting.{may-note}
use Rattle.qp_plain_tests.proofs.DeedLemmas.{ok-of}
use Rattle.qp_plain_tests.proofs.lanes.spend.Goals as goal

-- the lane's last record
spent-last : (v w : LaneView) (r : Rec) → body_of r ≡ Spent → GrowsOf r.of (told_note r v) v w → last_code w.told ≡ 6
unfolding told_note
spent-last v w r is grows =
    ap last_code grows.told ∙ last-snoc v.told (for_object r.of (note_told (ceiling_in 0 v.told) (body_of r)))
    ∙ ap (λ b. stop_code (note_told (ceiling_in 0 v.told) b).body) is

pub note-requires : goal.note-requires
note-requires g c = may-note 1 Spent c.spent.result _ c.spent.ensures refl (let room = ok-of (8 ≤ _) _ c.room.result c.in_ok-ok.ensures.value c.room.ensures.ok in omega (arith, room))

pub stop-requires : goal.stop-requires
stop-requires g c = inr (omega arith, spent-last _ _ c.spent.result (body-is 1 Spent c.spent.result c.spent.ensures) c.note.ensures.grows)
