-- Streams are decoded exactly where they are the frames of journals in range, and frames are one to one.
use Rattle.std.proofs.Common.{◌≡◌, ◌∙◌, ℕ, true, List, ◌++◌, Result, Ok, Err, IfOk, IsTrue, sym, ap, subst}
use Rattle.qp_model.specs.declared.journals.Journal.{Journal}
use Rattle.qp_model.specs.Output.{has_form, is_in_range}
use Rattle.qp_model.specs.OutputFrames.{frames, frames_from}
use Rattle.qp_text.specs.declared.found.Found.{Found}
use Rattle.qp_text.specs.TextLaw.{IsWritable}
use Rattle.qp_text.proofs.TextLaw.{ok-pair}
use Rattle.qp_frames.specs.Bytes.{are_bytes}
use Rattle.qp_frames.specs.declared.faults.FrameFault.{FrameFault}
use Rattle.qp_frames.specs.declared.faults.FrameFault.TheVariants.{Memory, At}
use Rattle.qp_frames.specs.Faults.{DecodesTo, IsDecoderOf}
use Rattle.qp_frames.specs.declared.stream.Stream.{Stream}
use Rattle.qp_frames.specs.Stream.{before_all, decoded, stream_ended, fed}
use Rattle.qp_frames.specs.FramesLaw.{DecodingIsExact, FaultsStay, FindsFrames, FramesAreOneToOne, FramesHaveNoFault}
use Rattle.qp_frames.proofs.FeedLemmas.{fed-append}
use Rattle.qp_frames.proofs.ItemsLaw.{leads-items, leads-writable, writable-leads}
use Rattle.qp_frames.proofs.StreamLaw.{decoded-is}
use Rattle.qp_frames.proofs.StreamRead.{decoded-back}

-- the frames of a journal in range are decoded as the journal
pub decoded-frames : (form : ℕ) (j : Journal) → IsWritable form j → decoded (frames form j) ≡ Ok (form, j)
decoded-frames form j is = let leads = writable-leads form j is in decoded-back form j _ leads.0 leads.1

-- a stream that is decoded is the frames of a journal in range
frames-decoded : (form : ℕ) (j : Journal) (bytes : List ℕ) → are_bytes bytes ≡ true → decoded bytes ≡ Ok (form, j) → IsWritable form j × (frames form j ≡ bytes)
frames-decoded form j bytes all is =
    let some = decoded-is form j bytes all is in
    (leads-writable form j some.1 some.0 some.2, ap (frames_from form 1) (leads-items form j some.1 some.0 some.2) ∙ some.3)

-- streams are decoded exactly
pub decoding_is_exact : DecodingIsExact
decoding_is_exact form j bytes all = (frames-decoded form j bytes all, λ is. ap decoded (sym is.1) ∙ decoded-frames form j is.0)

-- frames are one to one
pub frames_are_one_to_one : FramesAreOneToOne
frames_are_one_to_one v w i j first second same = ok-pair v w i j (sym (decoded-frames v i first) ∙ ap decoded same ∙ decoded-frames w j second)

-- a fault stays
pub faults_stay : FaultsStay
faults_stay bytes more fault is = ap stream_ended (fed-append (Ok before_all) bytes more ∙ ap (λ state. fed state more) is)

-- frames have none
pub frames_have_no_fault : FramesHaveNoFault
frames_have_no_fault form j bytes more fault is same fed_is =
    let read : decoded (bytes ++ more) ≡ Ok (form, j) = ap decoded (sym same) ∙ decoded-frames form j is in
    let faulty = faults_stay bytes more fault fed_is in
    absurd cc

-- what a decoder answers on a stream of bytes
pub finds_frames : (result : Result Found FrameFault) (bytes : List ℕ) → are_bytes bytes ≡ true → DecodesTo result (decoded bytes) → FindsFrames result bytes
finds_frames (Ok found) bytes all finds = frames-decoded found.form found.journal bytes all finds
finds_frames (Err Memory) bytes all finds = _
finds_frames (Err (At offset code want got)) bytes all finds = λ form j is same.
    let read : decoded bytes ≡ Ok (form, j) = ap decoded (sym same) ∙ decoded-frames form j is in absurd cc

-- and in which state it was
pub fault_frames : (fault : FrameFault) (bytes : List ℕ) → IsDecoderOf (Err fault) bytes → FindsFrames (Err fault) bytes
fault_frames Memory bytes led = _
fault_frames (At offset code want got) bytes led = finds_frames (Err (At offset code want got)) bytes led.0 (ap stream_ended led.1)

pub ended_frames : (result : Result Found FrameFault) (p : Stream) (bytes : List ℕ) → DecodesTo result (stream_ended (Ok p)) → IsDecoderOf (Ok p) bytes → FindsFrames result bytes
ended_frames result p bytes finds led = finds_frames result bytes led.0 (subst (DecodesTo result) (sym (ap stream_ended led.1)) finds)

-- what is found has its form, and is in range
pub found_form : (result : Result Found FrameFault) (bytes : List ℕ) → FindsFrames result bytes → IfOk result (λ found. IsTrue (has_form found.form found.journal))
found_form (Ok found) bytes finds = finds.0.shape
found_form (Err fault) bytes finds = _

pub found_range : (result : Result Found FrameFault) (bytes : List ℕ) → FindsFrames result bytes → IfOk result (λ found. IsTrue (is_in_range found.form found.journal))
found_range (Ok found) bytes finds = finds.0.range
found_range (Err fault) bytes finds = _
