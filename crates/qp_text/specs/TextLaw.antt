-- Texts and journals are one to one.
use Rattle.std.specs.Prelude.{◌≡◌, ◌↔◌, ℕ, ◌^◌, nat_lt, Bool, List, IsTrue, Result, Ok}
use Rattle.std.specs.List.{list_all}
use Rattle.qp_model.specs.declared.record.Rec.{Rec}
use Rattle.qp_model.specs.declared.journals.Journal.{Journal}
use Rattle.qp_model.specs.Output.{has_form, is_in_range}
use Rattle.qp_model.specs.OutputText.{text}
use Rattle.qp_text.specs.declared.found.Found.{Found}
use Rattle.qp_text.specs.declared.found.TextFault.{TextFault}
use Rattle.qp_text.specs.Found.{ReadsJournal}
use Rattle.qp_text.specs.ReadText.{read_text}

-- each number has 64 bits
abbrev pub has_64_bits : List ℕ → Bool
has_64_bits nums = list_all (λ (n : ℕ). nat_lt n (2 ^ 64)) nums

abbrev pub record_has_64_bits : Rec → Bool
record_has_64_bits r = has_64_bits r.nums.items

abbrev pub lane_has_64_bits : List Rec → Bool
lane_has_64_bits lane = list_all record_has_64_bits lane

abbrev pub records_have_64_bits : List (List Rec) → Bool
records_have_64_bits lanes = list_all lane_has_64_bits lanes

-- a journal that has the form and is in range, with numbers of 64 bits as each record's are
pub record IsWritable (form : ℕ) (j : Journal) : Type 0 where
  pub shape : IsTrue (has_form form j)
  pub range : IsTrue (is_in_range form j)
  pub bits : IsTrue (records_have_64_bits j.lanes)

-- bytes are read as a journal in a form exactly where they are the text of this journal, which is in range
abbrev pub ReadingIsExact : Type 0
ReadingIsExact = (form : ℕ) (j : Journal) (bytes : List ℕ) → (read_text bytes ≡ Ok (form, j)) ↔ (IsWritable form j × (text form j ≡ bytes))

-- two texts are equal only where the forms and the journals are
abbrev pub TextsAreOneToOne : Type 0
TextsAreOneToOne = (v w : ℕ) (i j : Journal) → IsWritable v i → IsWritable w j → text v i ≡ text w j → (v ≡ w) × (i ≡ j)

-- where the bytes are the text of a journal in range, the answer is this journal in its form. Want of memory is free
abbrev pub ReadsTexts : Result Found TextFault → List ℕ → Type 0
ReadsTexts result bytes = (form : ℕ) (j : Journal) → IsWritable form j → text form j ≡ bytes → ReadsJournal result (Ok (form, j))
