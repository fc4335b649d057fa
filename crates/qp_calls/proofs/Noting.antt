-- Notes that groups add.
use Rattle.std.proofs.Common.{◌≡◌, ℕ, ◌-◌, ◌<◌, ◌≤◌, true, false, [], ◌∷◌, refl, ◌∙◌, subst, arith}
use Rattle.qp_model.specs.declared.record.Rec.{Rec}
use Rattle.qp_model.specs.declared.bodies.Entry as model
use Rattle.qp_model.specs.declared.bodies.Body.{Body}
use Rattle.qp_model.specs.declared.bodies.Body.TheVariants.{Spill, BadTicks}
use Rattle.qp_model.specs.Record.{item_of, body_of}
use Rattle.qp_model.specs.Ends.{is_spill}
use Rattle.qp_calls.specs.LaneView.{LaneView, AddsTold, GrowsOf, ceiling_in}
use Rattle.qp_calls.specs.Notes.{IsNote, MayNote, needs_spare_alone, spare_after, note_told, told_note}
use Rattle.qp_model.proofs.RecordLemmas.{body-is, of-is}

is_a_note : (b : Body) (v : LaneView) → needs_spare_alone b ≡ true → 0 < v.spare → IsNote b v
is_a_note (Spill n) v h s = absurd (cc)
is_a_note (BadTicks t n i) v h s = absurd (cc)
is_a_note _ v h s = (h, s)

no_spill : (b : Body) → needs_spare_alone b ≡ true → is_spill b ≡ false
no_spill (Spill n) h = absurd (cc)
no_spill _ h = refl

-- a note may be added
pub may-note : (o : ℕ) (b : Body) (r : Rec) (v : LaneView) → item_of r ≡ record { of = o; body = b } → needs_spare_alone b ≡ true → 0 < v.spare → MayNote r v
unfolding MayNote
may-note o b r v is note spare = rw (body-is o b r is) (is_a_note b v note spare)

-- and is then the lane's last record
pub adds-note : (o : ℕ) (b : Body) (r : Rec) (v w : LaneView) → item_of r ≡ record { of = o; body = b } → needs_spare_alone b ≡ true → o ≡ v.by → 0 < v.spare
    → GrowsOf r.of (told_note r v) v w → w.spare ≡ spare_after r v.spare → AddsTold (note_told (ceiling_in 0 v.told) b ∷ []) v w
unfolding told_note spare_after
adds-note o b r v w is note by some grown spare =
    let body : body_of r ≡ b = body-is o b r is in
    let mine : r.of ≡ v.by = of-is o b r is ∙ by in
    let less : w.spare ≡ v.spare - 1 = spare ∙ rw (body, no_spill b note) refl in
    record {
      grows = subst (λ x. GrowsOf x (note_told (ceiling_in 0 v.told) b ∷ []) v w) mine (subst (λ x. GrowsOf r.of (note_told (ceiling_in 0 v.told) x ∷ []) v w) body grown);
      spare = omega (arith, less);
    }

-- a lane as it was has its room, and works for its object
pub still-room : (q r : LaneView) → q ≡ r → 8 ≤ r.spare → 8 ≤ q.spare
still-room q r same some = rw same some

pub still-by : (o : ℕ) (q r : LaneView) → q ≡ r → o ≡ r.by → o ≡ q.by
still-by o q r same by = rw same by

-- a note that states an entry
pub adds-stated : (make : model.Entry → Body) (o : ℕ) (x e : model.Entry) (r : Rec) (v w : LaneView) → x ≡ e → item_of r ≡ record { of = o; body = make x } → needs_spare_alone (make x) ≡ true
    → o ≡ v.by → 0 < v.spare → GrowsOf r.of (told_note r v) v w → w.spare ≡ spare_after r v.spare → AddsTold (note_told (ceiling_in 0 v.told) (make e) ∷ []) v w
adds-stated make o x e r v w same is note by some grown spare =
    subst (λ y. AddsTold (note_told (ceiling_in 0 v.told) (make y) ∷ []) v w) same (adds-note o (make x) r v w is note by some grown spare)

pub still-some : (q r : LaneView) → q ≡ r → 0 < r.spare → 0 < q.spare
still-some q r same some = rw same some
