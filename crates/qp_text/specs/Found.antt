-- What the reader of a text answers. Want of memory is free.
use Rattle.std.specs.Prelude.{◌≡◌, ℕ, Result, Ok, Err, ⊤}
use Rattle.qp_model.specs.declared.journals.Journal.{Journal}
use Rattle.qp_text.specs.declared.found.Found.{Found}
use Rattle.qp_text.specs.declared.found.TextFault.{TextFault}
use Rattle.qp_text.specs.declared.found.TextFault.TheVariants.{Memory, Line}

-- the answer is the journal in its form, or the line with its code
abbrev pub ReadsJournal : Result Found TextFault → Result (ℕ × Journal) (ℕ × ℕ) → Type 0
ReadsJournal (Ok found) wanted = wanted ≡ Ok (found.form, found.journal)
ReadsJournal (Err Memory) wanted = ⊤
ReadsJournal (Err (Line number code)) wanted = wanted ≡ Err (number, code)
