-- The frames of a journal in range are decoded as the journal.
use Rattle.std.proofs.Common.{◌≡◌, ◌∙◌, ℕ, ◌+◌, ◌%◌, Bool, true, false, List, [], ◌∷◌, ◌++◌, Some, Ok, refl, sym, ap, append_assoc, append-nil, inl, inr}
use Rattle.std.specs.Prelude.{◌==◌, ◌⊎◌}
use Rattle.std.specs.List.{flat_map}
use Rattle.std.proofs.lemmas.Bool.{eqb-true}
use Rattle.qp_model.specs.Kinds.{QP}
use Rattle.qp_model.specs.declared.journals.Journal.{Journal}
use Rattle.qp_model.specs.Output.{JournalItem, item}
use Rattle.qp_model.specs.OutputFrames.{end_byte, escape_byte, escaped, frame, frames_from, groups}
use Rattle.qp_text.specs.declared.progress.Reading.{Reading}
use Rattle.qp_text.specs.Progress.{nothing_read, journal_of, take_item}
use Rattle.qp_text.proofs.LineText.{IsItem}
use Rattle.qp_frames.specs.declared.stream.Stream.{Stream}
use Rattle.qp_frames.specs.Stream.{decoded, end_frame, stream_ended, fed, stream_form, form_of_bytes, item_of_frame, item_taken, next_offset, take_byte, with_item}
use Rattle.qp_frames.proofs.FrameLaw.{item_of_frame-read, summed_bytes}
use Rattle.qp_frames.proofs.ItemsLaw.{AllItems, Leads, Under, first-states, leads-some, leads-tail, take_items, taken-cons, under-first, under-next}

-- within a frame, with no escape last
abbrev inside : Reading → ℕ → ℕ → ℕ → List ℕ → Stream
inside reading sequence start offset bytes =
    record { reading = reading; sequence = sequence; start = start; offset = offset; is_escaped = false; bytes = bytes }

module _ (r : Reading) (s start : ℕ) where
  -- over a byte, escaped where it must be
  byte-fed : (offset : ℕ) (bytes : List ℕ) (b : ℕ) (rest : List ℕ)
      → (next : ℕ) × (fed (Ok (inside r s start offset bytes)) (escaped b ++ rest) ≡ fed (Ok (inside r s start next (bytes ++ b ∷ []))) rest)
  byte-fed offset bytes b rest = go (b == end_byte) refl (b == escape_byte) refl where
    go : (is_end : Bool) → (b == end_byte) ≡ is_end → (is_escape : Bool) → (b == escape_byte) ≡ is_escape
        → (next : ℕ) × (fed (Ok (inside r s start offset bytes)) (escaped b ++ rest) ≡ fed (Ok (inside r s start next (bytes ++ b ∷ []))) rest)
    go true ends is_escape escapes = (next_offset (next_offset offset), rw (eqb-true b end_byte ends) refl)
    go false other true escapes = (next_offset (next_offset offset), rw (eqb-true b escape_byte escapes) refl)
    go false other false plain =
        let bare : escaped b ≡ b ∷ [] = rw (other, plain) refl in
        let kept : take_byte (inside r s start offset bytes) b ≡ Ok (inside r s start (next_offset offset) (bytes ++ b ∷ [])) = rw (other, plain) refl in
        (next_offset offset, ap (λ t. fed (Ok (inside r s start offset bytes)) (t ++ rest)) bare ∙ ap (λ t. fed t rest) kept)

  -- over the bytes of a frame
  bytes-fed : (xs : List ℕ) (offset : ℕ) (bytes rest : List ℕ)
      → (next : ℕ) × (fed (Ok (inside r s start offset bytes)) (flat_map escaped xs ++ rest) ≡ fed (Ok (inside r s start next (bytes ++ xs))) rest)
  bytes-fed [] offset bytes rest = (offset, ap (λ t. fed (Ok (inside r s start offset t)) rest) (sym (append-nil bytes)))
  bytes-fed (b ∷ xs) offset bytes rest =
      let first = byte-fed offset bytes b (flat_map escaped xs ++ rest) in
      let all = bytes-fed xs first.0 (bytes ++ b ∷ []) rest in (
        all.0,
        ap (fed (Ok (inside r s start offset bytes))) (append_assoc (escaped b) (flat_map escaped xs) rest)
            ∙ first.1 ∙ all.1
            ∙ ap (λ t. fed (Ok (inside r s start all.0 t)) rest) (append_assoc bytes (b ∷ []) xs),
      )

-- at the end of a frame
end_frame-read : (form : ℕ) (p : Stream) (r : Reading) (i : JournalItem) → stream_form p ≡ form → item_of_frame p.start form p.sequence p.bytes ≡ Ok i
    → take_item form p.reading i ≡ Ok r → end_frame p ≡ item_taken p (Ok r)
end_frame-read form p r i form_is read takes =
    ap (λ f. with_item f p (item_of_frame p.start f p.sequence p.bytes)) form_is ∙ ap (with_item form p) read ∙ ap (item_taken p) takes

-- over the frame of an item
frame-fed : (form : ℕ) (p q : Reading) (s start offset : ℕ) (i : JournalItem) (rest : List ℕ) → IsItem form i
    → ((offset : ℕ) → stream_form (inside p s start offset (summed_bytes form s i)) ≡ form) → take_item form p i ≡ Ok q
    → (next : ℕ) × (fed (Ok (inside p s start offset [])) (frame form s i ++ rest) ≡ fed (Ok (inside q ((s + 1) % 256) next next [])) rest)
frame-fed form p q s start offset i rest is form_is takes =
    let bytes = summed_bytes form s i in
    let fed_bytes = bytes-fed p s start bytes offset [] (end_byte ∷ rest) in
    let last = inside p s start fed_bytes.0 bytes in (
      next_offset fed_bytes.0,
      ap (fed (Ok (inside p s start offset []))) (append_assoc (flat_map escaped bytes) (end_byte ∷ []) rest)
          ∙ fed_bytes.1
          ∙ ap (λ t. fed t rest) (end_frame-read form last q i (form_is fed_bytes.0) (item_of_frame-read start form s i is) takes),
    )

-- over the frames of items after the first
items-fed : (form : ℕ) (p q : Reading) (s start : ℕ) (items : List JournalItem) → Under form p → AllItems form items → take_items form p items ≡ Ok q
    → (sequence : ℕ) × (next : ℕ) × (fed (Ok (inside p s start start [])) (frames_from form s items) ≡ Ok (inside q sequence next next []))
items-fed form p q s start [] under fits takes =
    let same : p ≡ q = cc in
    (s, start, ap (λ r. Ok (inside r s start start [])) same)
items-fed form p q s start (i ∷ items) under fits takes =
    let first = taken-cons form p q i items takes in
    let form_is : (offset : ℕ) → stream_form (inside p s start offset (summed_bytes form s i)) ≡ form = λ offset. rw under.begun under.form_is in
    let here = frame-fed form p first.0 s start start i (frames_from form ((s + 1) % 256) items) fits.0 form_is first.1 in
    let behind = items-fed form first.0 q ((s + 1) % 256) here.0 items (under-next form p first.0 i under fits.0 first.1).0 fits.1 first.2 in
    (behind.0, behind.1, here.1 ∙ behind.2)

-- the first frame states the form
frame-states : (form kernel budget s : ℕ) → (form ≡ 1) ⊎ (form ≡ 2) → form_of_bytes (summed_bytes form s (item QP (form ∷ kernel ∷ budget ∷ []))) ≡ form
unfolding groups
frame-states form kernel budget s (inl one) = rw one refl
frame-states form kernel budget s (inr two) = rw two (stated kernel budget s) where
  stated : (kernel budget s : ℕ) → form_of_bytes (summed_bytes 2 s (item QP (2 ∷ kernel ∷ budget ∷ []))) ≡ 2
  stated kernel budget s = refl

-- the stream ends behind a frame
ended-read : (q : Reading) (s next status v : ℕ) (j : Journal) → q.end ≡ Some status → q.form ≡ v → journal_of q status ≡ j
    → stream_ended (Ok (inside q s next next [])) ≡ Ok (v, j)
ended-read q s next status v j end form journal = rw (end, form, journal) refl

-- the frames of items after the first, to the end of the stream
items-decoded : (v : ℕ) (p : Reading) (j : Journal) (s start : ℕ) (items : List JournalItem) → Under v p → Leads p v j items
    → stream_ended (fed (Ok (inside p s start start [])) (frames_from v s items)) ≡ Ok (v, j)
items-decoded v p j s start items under leads =
    let all = items-fed v p leads.reading s start items under leads.fits leads.taken in
    ap stream_ended all.2 ∙ ended-read leads.reading all.0 all.1 leads.status v j leads.ended leads.form leads.journal

-- the frames of items that lead to a journal are decoded as the journal
pub decoded-back : (v : ℕ) (j : Journal) (items : List JournalItem) → (v ≡ 1) ⊎ (v ≡ 2) → Leads nothing_read v j items → decoded (frames_from v 1 items) ≡ Ok (v, j)
decoded-back v j [] known leads = leads-some v j leads
decoded-back v j (i ∷ items) known leads =
    let first = leads-tail v nothing_read j i items leads in
    let q = first.0 in
    let head = first-states v q i known first.1 first.2 in
    let form_is : (offset : ℕ) → stream_form (inside nothing_read 1 0 offset (summed_bytes v 1 i)) ≡ v = λ offset. rw head (frame-states v q.kernel q.budget 1 known) in
    let here = frame-fed v nothing_read q 1 0 0 i (frames_from v 2 items) first.1 form_is first.2 in
    ap stream_ended here.1 ∙ items-decoded v q j 2 here.0 items (under-first v q i known first.1 first.2).0 first.3
