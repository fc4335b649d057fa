-- What the decoder of frames answers. Want of memory is free.
use Rattle.std.specs.Prelude.{◌≡◌, ℕ, List, IsTrue, Result, Ok, Err, ⊤}
use Rattle.qp_model.specs.declared.journals.Journal.{Journal}
use Rattle.qp_text.specs.declared.found.Found.{Found}
use Rattle.qp_frames.specs.Bytes.{are_bytes}
use Rattle.qp_frames.specs.declared.faults.FrameFault.{FrameFault}
use Rattle.qp_frames.specs.declared.faults.FrameFault.TheVariants.{Memory, At}
use Rattle.qp_frames.specs.declared.faults.NumberFault.{NumberFault}
use Rattle.qp_frames.specs.declared.faults.NumberFault.TheVariants.{NoMemory, Wrong}
use Rattle.qp_frames.specs.declared.stream.Stream.{Stream}
use Rattle.qp_frames.specs.Stream.{before_all, fed}

-- the answer is the one that is wanted
abbrev pub FrameAnswers : {T : Type 0} → Result T FrameFault → Result T FrameFault → Type 0
FrameAnswers (Ok x) wanted = wanted ≡ Ok x
FrameAnswers (Err Memory) wanted = ⊤
FrameAnswers (Err (At offset code want got)) wanted = wanted ≡ Err (At offset code want got)

-- a value that a call changes became the one that is wanted
abbrev pub Becomes : {U T : Type 0} → Result U FrameFault → T → Result T FrameFault → Type 0
Becomes (Ok _) new wanted = wanted ≡ Ok new
Becomes (Err Memory) new wanted = ⊤
Becomes (Err (At offset code want got)) new wanted = wanted ≡ Err (At offset code want got)

-- the numbers, or the byte that shows a wrong one
abbrev pub ReadsNumbers : Result (List ℕ) NumberFault → Result (List ℕ) ℕ → Type 0
ReadsNumbers (Ok nums) wanted = wanted ≡ Ok nums
ReadsNumbers (Err NoMemory) wanted = ⊤
ReadsNumbers (Err (Wrong got)) wanted = wanted ≡ Err got

-- the state of a decoder to which these bytes were fed
abbrev pub IsDecoderOf : Result Stream FrameFault → List ℕ → Type 0
IsDecoderOf (Err Memory) bytes = ⊤
IsDecoderOf state bytes = IsTrue (are_bytes bytes) × (fed (Ok before_all) bytes ≡ state)

-- the answer of a decoder in this state: its fault, if there is one
abbrev pub answer_of : Result Stream FrameFault → Result ⊤ FrameFault
answer_of (Ok p) = Ok _
answer_of (Err fault) = Err fault

-- the answer is the journal in its form, or the fault
abbrev pub DecodesTo : Result Found FrameFault → Result (ℕ × Journal) FrameFault → Type 0
DecodesTo (Ok found) wanted = wanted ≡ Ok (found.form, found.journal)
DecodesTo (Err Memory) wanted = ⊤
DecodesTo (Err (At offset code want got)) wanted = wanted ≡ Err (At offset code want got)
