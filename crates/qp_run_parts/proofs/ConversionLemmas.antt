-- Journals that are read from a file and written again.
use Rattle.std.proofs.Common.{◌≡◌, ℕ, ◌⊎◌, true, false, List, Option, Result, Ok, Err, refl, sym, ap, ◌∙◌, inl, inr}
use Rattle.std.proofs.lemmas.Bool.{cond-true, cond-false}
use Rattle.std.proofs.lemmas.Option.{IfSome_then}
use Rattle.qp_model.specs.declared.journals.Journal as journal
use Rattle.qp_model.specs.Output.{has_form}
use Rattle.qp_text.proofs.TextRead.{reading_is_exact}
use Rattle.qp_text.specs.declared.found.TextFault as text_fault
use Rattle.qp_text.specs.declared.found.TextFault.TheVariants as text_faults
use Rattle.qp_text.specs.Found.{ReadsJournal}
use Rattle.qp_text.specs.ReadText.{read_text}
use Rattle.qp_text.specs.TextLaw.{IsWritable}
use Rattle.qp_frames.proofs.FramesLaw.{decoded-frames}
use Rattle.qp_frames.specs.declared.faults.FrameFault as frame_fault
use Rattle.qp_frames.specs.declared.faults.FrameFault.TheVariants as frame_faults
use Rattle.qp_frames.specs.declared.stream.Stream.{Stream}
use Rattle.qp_frames.specs.Faults.{DecodesTo, IsDecoderOf, answer_of}
use Rattle.qp_frames.specs.Stream.{decoded, stream_ended}
use Rattle.qp_run_parts.specs.declared.place.Place.TheVariants.{Nowhere}
use Rattle.qp_run_parts.specs.declared.status.Status.{Status}
use Rattle.qp_run_parts.specs.declared.status.Status.TheVariants.{Done, Refused}
use Rattle.qp_commands.specs.declared.values.Kind.{Kind}
use Rattle.qp_commands.specs.declared.values.Kind.TheVariants.{Journal, Frames}
use Rattle.qp_run_parts.specs.Conversions.{HasJournal, Held, IsWrittenAs, RefusesFile, answer_on, frame_refusal, frames_said, migrate_on, said, text_refusal, text_said, written, other_form}
use Rattle.qp_run_parts.specs.Verdict.{AgreesJournal, is_failure}
use Rattle.qp_run_parts.proofs.VerdictLemmas.{IfSome-all}

-- what is written of a journal in range says this journal
pub said-written : (kind : Kind) (form : ℕ) (j : journal.Journal) → IsWritable form j → said kind (written kind form j) ≡ Ok (form, j)
unfolding said
said-written Journal form j is = ap text_said ((reading_is_exact form j (written Journal form j)).1 (is, refl))
said-written Frames form j is = ap frames_said (decoded-frames form j is)

-- what is refused
pub text-refuses : (fault : text_fault.TextFault) (bytes : List ℕ) → ReadsJournal (Err fault) (read_text bytes) → RefusesFile Journal bytes (text_refusal fault)
unfolding said
text-refuses text_faults.Memory bytes reads = (refl, inl refl)
text-refuses (text_faults.Line number code) bytes reads = (refl, inr (ap text_said reads))

pub frames-refuse : (fault : frame_fault.FrameFault) (bytes : List ℕ) → DecodesTo (Err fault) (decoded bytes) → RefusesFile Frames bytes (frame_refusal fault)
unfolding said
frames-refuse frame_faults.Memory bytes finds = (refl, inl refl)
frames-refuse (frame_faults.At offset code want got) bytes finds = (refl, inr (ap frames_said finds))

-- what a decoder with a fault refuses
pub fault-refuses : (fault : frame_fault.FrameFault) (bytes : List ℕ) → IsDecoderOf (Err fault) bytes → RefusesFile Frames bytes (frame_refusal fault)
fault-refuses frame_faults.Memory bytes stands = (refl, inl refl)
fault-refuses (frame_faults.At offset code want got) bytes stands = frames-refuse (frame_faults.At offset code want got) bytes (ap stream_ended stands.1)

-- a decoder that answers a fault
pub fed-refuses : (state : Result Stream frame_fault.FrameFault) (fault : frame_fault.FrameFault) (bytes : List ℕ) → Err fault ≡ answer_of state → IsDecoderOf state bytes
    → RefusesFile Frames bytes (frame_refusal fault)
fed-refuses (Ok p) fault bytes answer stands = absurd (cc)
fed-refuses (Err other) fault bytes answer stands =
    let same : other ≡ fault = cc in
    fault-refuses fault bytes (rw same at stands)

-- ---- the answer

module _ (o : Option Held) (name : List ℕ) (kind : Kind) (on : journal.Journal → Status) where
  abbrev Told : Status → Type 0
  Told answer = AgreesJournal o kind on name answer

  -- the file has a journal
  pub told-journal : (form : ℕ) (j : journal.Journal) (answer : Status) → HasJournal o name kind form j → (is_failure answer ≡ true) ⊎ (answer ≡ on j) → Told answer
  told-journal form j answer has (inl failed) = IfSome-all o (λ held. inl failed)
  told-journal form j answer has (inr is) =
      IfSome_then o has.loaded (λ held loaded. inr (inr (written kind form j, loaded, is ∙ sym (ap (answer_on on) (said-written kind form j has.writable)))))

  -- a journal was written
  pub told-written : (form : ℕ) (j : journal.Journal) (answer : Status) (bytes : List ℕ) (old new : Option (List ℕ)) (faults faults' : ℕ)
      → HasJournal o name kind form j → on j ≡ Done → IsWrittenAs Done bytes old new faults faults' answer → Told answer
  told-written form j answer bytes old new faults faults' has done (inl (is, all)) = told-journal form j answer has (inr (is ∙ sym done))
  told-written form j answer bytes old new faults faults' has done (inr (is, part, rose)) = told-journal form j answer has (inl (ap is_failure is))

-- the answer on a journal that is migrated
pub migrate-done : (to : ℕ) (j : journal.Journal) → has_form to j ≡ true → migrate_on to j ≡ Done
migrate-done to j has = cond-true (has_form to j) _ _ has

pub migrate-refused : (to : ℕ) (j : journal.Journal) → has_form to j ≡ false → Refused 1 other_form Nowhere ≡ migrate_on to j
migrate-refused to j lacks = sym (cond-false (has_form to j) _ _ lacks)
