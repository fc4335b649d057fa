-- A stream that is decoded as a journal is the journal's frames.
use Rattle.std.proofs.Common.{◌≡◌, ◌∙◌, ℕ, ◌+◌, ◌%◌, Bool, true, false, List, [], ◌∷◌, ◌++◌, length, Option, Some, None, Result, Ok, Err, cond, refl, sym, ap, append_assoc, append-nil, arith, inl, inr}
use Rattle.std.specs.Prelude.{◌==◌, ◌⊎◌, ◌||◌, nat_lt}
use Rattle.std.specs.List.{flat_map}
use Rattle.std.proofs.lemmas.Bool.{eqb-true, and_from, and_parts, or_parts}
use Rattle.std.proofs.lemmas.Bool.Decides.{nat_tests}
use Rattle.std.proofs.lemmas.Grind.{flat_map-append}
use Rattle.std.proofs.lemmas.List.Folds.{list_all-append}
use Rattle.qp_model.specs.declared.journals.Journal.{Journal}
use Rattle.qp_model.specs.Output.{JournalItem}
use Rattle.qp_model.specs.OutputFrames.{end_byte, escape_byte, escaped, frame, frames_from}
use Rattle.qp_text.specs.declared.progress.Reading.{Reading}
use Rattle.qp_text.specs.Progress.{nothing_read, journal_of, take_item}
use Rattle.qp_text.proofs.LineText.{IsItem}
use Rattle.qp_text.proofs.ProgressLaw.{Good, take_item-is}
use Rattle.qp_text.proofs.TakenLaw.{taken}
use Rattle.qp_text.proofs.TextLaw.{ok-pair}
use Rattle.qp_frames.specs.Bytes.{are_bytes}
use Rattle.qp_frames.specs.Sequence.{sequence_behind}
use Rattle.qp_frames.specs.declared.faults.FrameFault.{FrameFault}
use Rattle.qp_frames.specs.declared.faults.FrameFault.TheVariants.{At}
use Rattle.qp_frames.specs.declared.stream.Stream.{Stream}
use Rattle.qp_frames.specs.Stream.{after_escape, before_all, decoded, end_frame, stream_ended, fed, finish_stream, stream_form, form_of_bytes, item_of_frame, item_taken, keep_byte, next_offset, take_byte, take_plain, with_item}
use Rattle.qp_frames.proofs.FrameLaw.{item_of_frame-is, no_error, summed_bytes}
use Rattle.qp_frames.proofs.FrameLemmas.{behind-append, frames-append, frames-one}
use Rattle.qp_frames.proofs.ItemsLaw.{AllItems, Leads, and_next, take_items, taken-cons}

-- the bytes of a frame so far, as they came
abbrev raw : Stream → List ℕ
raw p = flat_map escaped p.bytes ++ cond p.is_escaped (escape_byte ∷ []) []

-- all the bytes so far
abbrev so_far : Stream → List ℕ
so_far p = frames_from p.reading.form 1 (taken p.reading) ++ raw p

-- how far a stream without a fault has come
record Fine (p : Stream) : Type 0 where
  good : Good p.reading
  sequence : p.sequence ≡ sequence_behind 1 (taken p.reading)
  bytes : are_bytes p.bytes ≡ true
  fits : AllItems p.reading.form (taken p.reading)
  made : take_items p.reading.form nothing_read (taken p.reading) ≡ Ok p.reading

-- one byte more
record TakesByte (p q : Stream) (b : ℕ) : Type 0 where
  fine : Fine q
  so_far_is : so_far q ≡ so_far p ++ b ∷ []

-- a byte of the frame, that came as these bytes
keep-is : (p q : Stream) (c b : ℕ) → Fine p → nat_lt c 256 ≡ true → escaped c ≡ cond p.is_escaped (escape_byte ∷ []) [] ++ b ∷ [] → keep_byte p c ≡ Ok q → TakesByte p q b
keep-is p q c b fine byte came is =
    let this : record p { bytes = p.bytes ++ c ∷ []; is_escaped = false; offset = next_offset p.offset } ≡ q = cc in
    let escape = cond p.is_escaped (escape_byte ∷ []) [] in
    let before = frames_from p.reading.form 1 (taken p.reading) in
    rw (← this) record {
      fine = record {
        good = fine.good;
        sequence = fine.sequence;
        bytes = list_all-append (λ (x : ℕ). nat_lt x 256) p.bytes (c ∷ []) ∙ and_from (are_bytes p.bytes) (are_bytes (c ∷ [])) fine.bytes (and_from (nat_lt c 256) true byte refl);
        fits = fine.fits;
        made = fine.made;
      };
      so_far_is =
          ap (λ t. before ++ t) (append-nil (flat_map escaped (p.bytes ++ c ∷ [])) ∙ flat_map-append escaped p.bytes (c ∷ [])
          ∙ ap (λ t. flat_map escaped p.bytes ++ t) (append-nil (escaped c) ∙ came)
          ∙ sym (append_assoc (flat_map escaped p.bytes) escape (b ∷ [])))
          ∙ sym (append_assoc before (flat_map escaped p.bytes ++ escape) (b ∷ []));
    }

-- the byte behind an escape
after_escape-is : (p q : Stream) (b : ℕ) → Fine p → p.is_escaped ≡ true → after_escape p b ≡ Ok q → TakesByte p q b
after_escape-is p q b fine escape is = go (b == 0x5E) refl (b == 0x5D) refl is where
  go : (is_end : Bool) → (b == 0x5E) ≡ is_end → (is_escape : Bool) → (b == 0x5D) ≡ is_escape
      → cond {A = Result Stream FrameFault} is_end (keep_byte p end_byte) (cond {A = Result Stream FrameFault} is_escape (keep_byte p escape_byte) (Err (At p.start 1 0 b))) ≡ Ok q
      → TakesByte p q b
  go true ends is_escape escapes is = keep-is p q end_byte b fine refl (rw (escape, eqb-true b 0x5E ends) refl) is
  go false other true escapes is = keep-is p q escape_byte b fine refl (rw (escape, eqb-true b 0x5D escapes) refl) is
  go false other false plain is = absurd cc

-- a form is 1 or 2
bytes-known : (bytes : List ℕ) → (form_of_bytes bytes ≡ 1) ⊎ (form_of_bytes bytes ≡ 2)
bytes-known [] = inl refl
bytes-known (sequence ∷ []) = inl refl
bytes-known (sequence ∷ id ∷ []) = inl refl
bytes-known (sequence ∷ id ∷ third ∷ bytes) = go (third == 2) where
  go : (is_2 : Bool) → (cond {A = ℕ} is_2 2 1 ≡ 1) ⊎ (cond {A = ℕ} is_2 2 1 ≡ 2)
  go true = inr refl
  go false = inl refl

form_at-known : (p : Stream) → Good p.reading → (stream_form p ≡ 1) ⊎ (stream_form p ≡ 2)
form_at-known p (inl good) = rw good.0 good.1.form
form_at-known p (inr start) = rw start (bytes-known p.bytes)

form_at-begun : (p : Stream) → p.reading.begun ≡ true → p.reading.form ≡ stream_form p
form_at-begun p begun = rw begun refl

-- the items before, in the form of the next
before-is : (form : ℕ) (r : Reading) → Good r → (r.begun ≡ true → r.form ≡ form) → AllItems r.form (taken r) → take_items r.form nothing_read (taken r) ≡ Ok r
    → AllItems form (taken r) × (take_items form nothing_read (taken r) ≡ Ok r) × (frames_from r.form 1 (taken r) ≡ frames_from form 1 (taken r))
before-is form r (inl good) same fits made = let this = same good.0 in rw (← this) (fits, made, refl)
before-is form r (inr start) same fits made = rw start (tt, refl, refl)

all_items-more : (form : ℕ) (items : List JournalItem) (i : JournalItem) → AllItems form items → IsItem form i → AllItems form (items ++ i ∷ [])
all_items-more form [] i fits is = (is, tt)
all_items-more form (x ∷ items) i fits is = (fits.0, all_items-more form items i fits.1 is)

all_items-at : (form at : ℕ) (items there : List JournalItem) → at ≡ form → there ≡ items → AllItems form items → AllItems at there
all_items-at form at items there same is fits = rw (is, same) fits

take_items-more : (form : ℕ) (p q : Reading) (items more : List JournalItem) → take_items form p items ≡ Ok q → take_items form p (items ++ more) ≡ take_items form q more
take_items-more form p q [] more takes = let same : p ≡ q = cc in ap (λ r. take_items form r more) same
take_items-more form p q (i ∷ items) more takes =
    let first = taken-cons form p q i items takes in
    ap (λ read. and_next read (λ r. take_items form r (items ++ more))) first.1 ∙ take_items-more form first.0 q items more first.2

-- the item of a frame that ends is taken
with_item-is : (form : ℕ) (p q : Stream) (read : Result JournalItem FrameFault) → with_item form p read ≡ Ok q
    → (i : JournalItem) × (read ≡ Ok i) × (item_taken p (take_item form p.reading i) ≡ Ok q)
with_item-is form p q (Ok i) is = (i, refl, is)
with_item-is form p q (Err fault) is = absurd cc

item_taken-is : (p q : Stream) (read : Result Reading ℕ) → item_taken p read ≡ Ok q
    → (r : Reading) × (read ≡ Ok r) × (record p { reading = r; sequence = (p.sequence + 1) % 256; start = next_offset p.offset; offset = next_offset p.offset; bytes = [] } ≡ q)
item_taken-is p q (Ok r) is = (r, refl, cc)
item_taken-is p q (Err code) is = absurd cc

-- the bytes of a frame that ended stand behind those before
glue : (before all frame escape : List ℕ) → escape ≡ [] → all ≡ before ++ (frame ++ end_byte ∷ []) → all ++ escape ≡ (before ++ (frame ++ escape)) ++ end_byte ∷ []
glue before all frame escape none whole =
    rw (none, whole)
    (append-nil (before ++ (frame ++ end_byte ∷ []))
    ∙ sym (ap (λ t. (before ++ t) ++ end_byte ∷ []) (append-nil frame) ∙ append_assoc before frame (end_byte ∷ [])))

escape-glue : (before frame : List ℕ) → before ++ (frame ++ escape_byte ∷ []) ≡ (before ++ (frame ++ [])) ++ escape_byte ∷ []
escape-glue before frame =
    sym (ap (λ t. (before ++ t) ++ escape_byte ∷ []) (append-nil frame) ∙ append_assoc before frame (escape_byte ∷ []))

-- a frame more
module _ (p : Stream) (form : ℕ) (r : Reading) (i : JournalItem) (fine : Fine p) (same : p.reading.begun ≡ true → p.reading.form ≡ form) (known : (form ≡ 1) ⊎ (form ≡ 2))
    (is : IsItem form i) (bytes_are : summed_bytes form p.sequence i ≡ p.bytes) (takes : take_item form p.reading i ≡ Ok r) where
  frame-taken : (q : Stream) → p.is_escaped ≡ false
      → record p { reading = r; sequence = (p.sequence + 1) % 256; start = next_offset p.offset; offset = next_offset p.offset; bytes = [] } ≡ q → TakesByte p q end_byte
  frame-taken q plain this =
      let shown = take_item-is form p.reading r i fine.good same known is.first is.past is.count is.fits takes in
      let before = before-is form p.reading fine.good same fine.fits fine.made in
      let items = taken p.reading in
      rw (← this) record {
        fine = record {
          good = inl (shown.begun, shown.ranged);
          sequence = ap (λ s. (s + 1) % 256) fine.sequence ∙ sym (behind-append 1 items (i ∷ [])) ∙ ap (sequence_behind 1) (sym shown.items);
          bytes = refl;
          fits = all_items-at form r.form (items ++ i ∷ []) (taken r) shown.form_is shown.items (all_items-more form items i before.0 is);
          made =
              ap (λ f. take_items f nothing_read (taken r)) shown.form_is ∙ ap (take_items form nothing_read) shown.items
              ∙ take_items-more form nothing_read p.reading items (i ∷ []) before.1
              ∙ ap (λ read. and_next read (λ x. take_items form x [])) takes;
        };
        so_far_is =
            glue (frames_from p.reading.form 1 items) (frames_from r.form 1 (taken r)) (flat_map escaped p.bytes) (cond p.is_escaped (escape_byte ∷ []) []) (rw plain refl)
            (ap (λ f. frames_from f 1 (taken r)) shown.form_is ∙ ap (frames_from form 1) shown.items ∙ frames-append form 1 items (i ∷ [])
            ∙ ap (λ t. frames_from form 1 items ++ t) (frames-one form (sequence_behind 1 items) i ∙ ap (λ s. frame form s i) (sym fine.sequence)
            ∙ ap (λ t. flat_map escaped t ++ end_byte ∷ []) bytes_are)
            ∙ ap (λ t. t ++ (flat_map escaped p.bytes ++ end_byte ∷ [])) (sym before.2));
      }

-- at the end byte
end_frame-is : (p q : Stream) → Fine p → p.is_escaped ≡ false → end_frame p ≡ Ok q → TakesByte p q end_byte
end_frame-is p q fine plain is =
    let form = stream_form p in
    let some = with_item-is form p q (item_of_frame p.start form p.sequence p.bytes) is in
    let i = some.0 in
    let shown = item_of_frame-is p.start form p.sequence p.bytes i fine.bytes some.1 in
    let next = item_taken-is p q (take_item form p.reading i) some.2 in
    frame-taken p form next.0 i fine (λ begun. form_at-begun p begun) (form_at-known p fine.good) shown.1 shown.0 next.1 q plain next.2

-- a byte without an escape before it
take_plain-is : (p q : Stream) (b : ℕ) → Fine p → nat_lt b 256 ≡ true → p.is_escaped ≡ false → take_plain p b ≡ Ok q → TakesByte p q b
take_plain-is p q b fine byte plain is = go (b == end_byte) refl (b == escape_byte) refl is where
  go : (is_end : Bool) → (b == end_byte) ≡ is_end → (is_escape : Bool) → (b == escape_byte) ≡ is_escape
      → cond {A = Result Stream FrameFault} is_end (end_frame p)
      (cond {A = Result Stream FrameFault} is_escape (Ok (record p { is_escaped = true; offset = next_offset p.offset })) (keep_byte p b)) ≡ Ok q
      → TakesByte p q b
  go true ends is_escape escapes is = rw (eqb-true b end_byte ends) (end_frame-is p q fine plain is)
  go false other true escapes is =
      let this : record p { is_escaped = true; offset = next_offset p.offset } ≡ q = cc in
      let before = frames_from p.reading.form 1 (taken p.reading) in
      rw (← this, eqb-true b escape_byte escapes) record {
        fine = record { good = fine.good; sequence = fine.sequence; bytes = fine.bytes; fits = fine.fits; made = fine.made };
        so_far_is = rw plain (escape-glue before (flat_map escaped p.bytes));
      }
  go false other false escapes is = keep-is p q b b fine byte (rw (other, escapes, plain) refl) is

-- one more byte
take_byte-is : (p q : Stream) (b : ℕ) → Fine p → nat_lt b 256 ≡ true → take_byte p b ≡ Ok q → TakesByte p q b
take_byte-is p q b fine byte is = go p.is_escaped refl is where
  go : (escape : Bool) → p.is_escaped ≡ escape → cond {A = Result Stream FrameFault} escape (after_escape p b) (take_plain p b) ≡ Ok q → TakesByte p q b
  go true escape is = after_escape-is p q b fine escape is
  go false plain is = take_plain-is p q b fine byte plain is

-- more bytes
fed-cons : (read : Result Stream FrameFault) (bytes : List ℕ) (q : Stream) → fed read bytes ≡ Ok q → (p : Stream) × (read ≡ Ok p) × (fed (Ok p) bytes ≡ Ok q)
fed-cons (Ok p) bytes q is = (p, refl, is)
fed-cons (Err fault) bytes q is = absurd cc

fed-is : (p q : Stream) (bytes : List ℕ) → Fine p → are_bytes bytes ≡ true → fed (Ok p) bytes ≡ Ok q → Fine q × (so_far q ≡ so_far p ++ bytes)
fed-is p q [] fine all is =
    let same : p ≡ q = cc in
    rw (← same) (fine, sym (append-nil (so_far p)))
fed-is p q (b ∷ bytes) fine all is =
    let both = and_parts (nat_lt b 256) (are_bytes bytes) all in
    let some = fed-cons (take_byte p b) bytes q is in
    let first = take_byte-is p some.0 b fine both.0 some.1 in
    let rest = fed-is some.0 q bytes first.fine both.1 some.2 in
    (rest.0, rest.1 ∙ ap (λ t. t ++ bytes) first.so_far_is ∙ append_assoc (so_far p) (b ∷ []) bytes)

-- the stream ends
finish-is : (offset v : ℕ) (p : Reading) (j : Journal) (end : Option ℕ) → finish_stream offset p end ≡ Ok (v, j) → (status : ℕ) × (end ≡ Some status) × (p.form ≡ v) × (journal_of p status ≡ j)
finish-is offset v p j None is = absurd cc
finish-is offset v p j (Some status) is = let same = ok-pair p.form v (journal_of p status) j is in (status, refl, same.0, same.1)

ended-is : (read : Result Stream FrameFault) (v : ℕ) (j : Journal) → stream_ended read ≡ Ok (v, j)
    → (p : Stream) × (read ≡ Ok p) × (p.is_escaped ≡ false) × (p.bytes ≡ []) × (finish_stream p.start p.reading p.reading.end ≡ Ok (v, j))
ended-is (Err fault) v j is = absurd cc
ended-is (Ok p) v j is =
    let whole = no_error (p.is_escaped || nat_lt 0 (length p.bytes)) (At p.start 4 0 0) _ (v, j) is in
    let both = or_parts p.is_escaped (nat_lt 0 (length p.bytes)) whole.0 in
    (p, refl, both.0, none p.bytes both.1, whole.1) where
      none : (bytes : List ℕ) → nat_lt 0 (length bytes) ≡ false → bytes ≡ []
      none [] is = refl
      none (b ∷ bytes) is = absurd (grind (arith, nat_tests))

-- where the stream ends behind the last frame, its items lead to the journal
decoded-by : (v : ℕ) (j : Journal) (bytes : List ℕ) (p : Stream) (status : ℕ) → Fine p → p.is_escaped ≡ false → p.bytes ≡ [] → p.reading.end ≡ Some status
    → p.reading.form ≡ v → journal_of p.reading status ≡ j → so_far p ≡ bytes
    → ((v ≡ 1) ⊎ (v ≡ 2)) × (items : List JournalItem) × Leads nothing_read v j items × (frames_from v 1 items ≡ bytes)
decoded-by v j bytes p status fine plain none end form journal all =
    let items = taken p.reading in
    let before = frames_from p.reading.form 1 items in
    let nothing : raw p ≡ [] = rw (none, plain) refl in (
      known fine.good,
      items,
      record {
        fits = all_items-at p.reading.form v items items (sym form) refl fine.fits;
        reading = p.reading;
        status = status;
        taken = ap (λ f. take_items f nothing_read items) (sym form) ∙ fine.made;
        ended = end;
        form = form;
        journal = journal;
      },
      ap (λ f. frames_from f 1 items) (sym form) ∙ sym (append-nil before) ∙ ap (λ t. before ++ t) (sym nothing) ∙ all,
    ) where
      known : Good p.reading → (v ≡ 1) ⊎ (v ≡ 2)
      known (inl good) = rw (← form) good.1.form
      known (inr start) = let other = rw start at end in absurd cc

-- a stream of bytes that is decoded is made of the frames of items that lead to the journal
pub decoded-is : (v : ℕ) (j : Journal) (bytes : List ℕ) → are_bytes bytes ≡ true → decoded bytes ≡ Ok (v, j)
    → ((v ≡ 1) ⊎ (v ≡ 2)) × (items : List JournalItem) × Leads nothing_read v j items × (frames_from v 1 items ≡ bytes)
decoded-is v j bytes all is =
    let some = ended-is (fed (Ok before_all) bytes) v j is in
    let p = some.0 in
    let start : Fine before_all = record { good = inr refl; sequence = refl; bytes = refl; fits = tt; made = refl } in
    let read = fed-is before_all p bytes start all some.1 in
    let last = finish-is p.start v p.reading j p.reading.end some.4 in
    decoded-by v j bytes p last.0 read.0 some.2 some.3 last.1 last.2 last.3 read.1
