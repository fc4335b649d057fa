-- Frames and journals are one to one.
use Rattle.std.specs.Prelude.{◌≡◌, ◌↔◌, ℕ, List, ◌++◌, IsTrue, Result, Ok, Err, ⊤}
use Rattle.qp_model.specs.declared.journals.Journal.{Journal}
use Rattle.qp_model.specs.OutputFrames.{frames}
use Rattle.qp_text.specs.declared.found.Found.{Found}
use Rattle.qp_text.specs.TextLaw.{IsWritable}
use Rattle.qp_frames.specs.Bytes.{are_bytes}
use Rattle.qp_frames.specs.declared.faults.FrameFault.{FrameFault}
use Rattle.qp_frames.specs.declared.faults.FrameFault.TheVariants.{Memory, At}
use Rattle.qp_frames.specs.Stream.{before_all, decoded, fed}

-- a stream of bytes is decoded as a journal in a form exactly where it is the frames of this journal, which is in range
abbrev pub DecodingIsExact : Type 0
DecodingIsExact =
    (form : ℕ) (j : Journal) (bytes : List ℕ) → IsTrue (are_bytes bytes)
    → (decoded bytes ≡ Ok (form, j)) ↔ (IsWritable form j × (frames form j ≡ bytes))

-- the frames of two journals are equal only where the forms and the journals are
abbrev pub FramesAreOneToOne : Type 0
FramesAreOneToOne = (v w : ℕ) (i j : Journal) → IsWritable v i → IsWritable w j → frames v i ≡ frames w j → (v ≡ w) × (i ≡ j)

-- the first fault of a stream stays, whatever follows
abbrev pub FaultsStay : Type 0
FaultsStay = (bytes more : List ℕ) (fault : FrameFault) → fed (Ok before_all) bytes ≡ Err fault → decoded (bytes ++ more) ≡ Err fault

-- the frames of a journal in range have no fault at any byte
abbrev pub FramesHaveNoFault : Type 0
FramesHaveNoFault =
    (form : ℕ) (j : Journal) (bytes more : List ℕ) (fault : FrameFault) → IsWritable form j → frames form j ≡ bytes ++ more
    → fed (Ok before_all) bytes ≡ Err fault → ⊥

-- the answer on a stream is the journal whose frames it is, in its form, or there is none. Want of memory is free
abbrev pub FindsFrames : Result Found FrameFault → List ℕ → Type 0
FindsFrames (Ok found) bytes = IsWritable found.form found.journal × (frames found.form found.journal ≡ bytes)
FindsFrames (Err Memory) bytes = ⊤
FindsFrames (Err (At offset code want got)) bytes = (form : ℕ) (j : Journal) → IsWritable form j → frames form j ≡ bytes → ⊥
