-- What a journal's text says: the journal and its form, or the first line with a code and its lowest code.
use Rattle.std.specs.Prelude.{ℕ, ◌+◌, List, [], ◌∷◌, if◌then◌else◌, Option, Some, None, Result, Ok, Err}
use Rattle.qp_model.specs.declared.journals.Journal.{Journal}
use Rattle.qp_model.specs.Output.{JournalItem}
use Rattle.qp_text.specs.Codes.{WORD, NO_END}
use Rattle.qp_text.specs.Parts.{split}
use Rattle.qp_text.specs.LineItem.{item_of_line, form_of_line}
use Rattle.qp_text.specs.declared.progress.Reading.{Reading}
use Rattle.qp_text.specs.Progress.{nothing_read, take_item, journal_of}

-- the first line states the form of all
abbrev pub form_at : Reading → List ℕ → ℕ
form_at p line = if p.begun then p.form else form_of_line line

abbrev pub take_read : ℕ → Reading → Result JournalItem ℕ → Result Reading ℕ
take_read form p (Ok i) = take_item form p i
take_read form p (Err code) = Err code

-- one more line
abbrev pub take_line : Reading → List ℕ → Result Reading ℕ
take_line p line = take_read (form_at p line) p (item_of_line (form_at p line) line)

-- the text ends: after `end`, or too early
abbrev pub finish : ℕ → Reading → Option ℕ → Result (ℕ × Journal) (ℕ × ℕ)
finish number p None = Err (number, NO_END)
finish number p (Some status) = Ok (p.form, journal_of p status)

-- what stands behind the last newline is a line without one
abbrev pub last_part : ℕ → Reading → List ℕ → Result (ℕ × Journal) (ℕ × ℕ)
last_part number p [] = finish number p p.end
last_part number p (b ∷ bytes) = Err (number, WORD)

-- a line is taken, or has a code
abbrev pub after_line : ℕ → Result Reading ℕ → (Reading → Result (ℕ × Journal) (ℕ × ℕ)) → Result (ℕ × Journal) (ℕ × ℕ)
after_line number (Ok q) next = next q
after_line number (Err code) next = Err (number, code)

-- the lines from this number on, and the part behind the last newline
abbrev pub read_parts : ℕ → Reading → List (List ℕ) → Result (ℕ × Journal) (ℕ × ℕ)
read_parts number p [] = finish number p p.end
read_parts number p (part ∷ []) = last_part number p part
read_parts number p (line ∷ part ∷ parts) = after_line number (take_line p line) (λ q. read_parts (number + 1) q (part ∷ parts))

-- the reading of a text
abbrev pub read_text : List ℕ → Result (ℕ × Journal) (ℕ × ℕ)
read_text bytes = read_parts 1 nothing_read (split 10 bytes)
