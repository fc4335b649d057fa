-- What a reader of lines answers. Want of memory is free.
use Rattle.std.specs.Prelude.{◌≡◌, ℕ, Option, Some, None, Result, Ok, Err, ⊤}
use Rattle.qp_text.specs.declared.faults.LineFault.{LineFault}
use Rattle.qp_text.specs.declared.faults.LineFault.TheVariants.{Memory, Code}

-- the answer is the one that is wanted
abbrev pub LineAnswers : {T : Type 0} → Result T LineFault → Result T ℕ → Type 0
LineAnswers (Ok x) wanted = wanted ≡ Ok x
LineAnswers (Err Memory) wanted = ⊤
LineAnswers (Err (Code code)) wanted = wanted ≡ Err code

-- a value that a call changes became the one that is wanted
abbrev pub LineBecomes : {U T : Type 0} → Result U LineFault → T → Result T ℕ → Type 0
LineBecomes (Ok _) new wanted = wanted ≡ Ok new
LineBecomes (Err Memory) new wanted = ⊤
LineBecomes (Err (Code code)) new wanted = wanted ≡ Err code

-- a value, or this code where there is none
abbrev pub or_code : {T : Type 0} → ℕ → Option T → Result T ℕ
or_code code None = Err code
or_code code (Some x) = Ok x
