-- The word of a record, and the number on it, as far as they fit their types.
use Rattle.std.specs.Prelude.{ℕ, zero, suc, ◌^◌, nat_lt, Bool, ◌&&◌, if◌then◌else◌, Some, None}
use Rattle.std.specs.declared.option.Option.{Option}
use Rattle.qp_model.specs.declared.words.Word.{Word}
use Rattle.qp_model.specs.declared.words.Word.TheVariants as word
use Rattle.qp_model.specs.History.{Touch, Draws, Shows, Neither}

-- pools, blocks, objects and timers are bytes, and signals have 16 bits
abbrev pub word_fits : Word → Bool
word_fits (word.Pool p) = nat_lt p 256
word_fits (word.Block p b) = nat_lt p 256 && nat_lt b 256
word_fits (word.Queue a) = nat_lt a 256
word_fits (word.Signal s) = nat_lt s 65536
word_fits (word.Timer t) = nat_lt t 256

abbrev pub fitting_word : Word → Option Word
fitting_word w = if word_fits w then Some w else None

abbrev pub fitting_number : ℕ → Option ℕ
fitting_number n = if nat_lt n (2 ^ 64) then Some n else None

-- the number before the mark
abbrev pub number_before : ℕ → Option ℕ
number_before zero = None
number_before (suc n) = fitting_number n

-- the word that is drawn on or shown
abbrev pub word_of : Touch → Option Word
word_of (Draws w mark) = fitting_word w
word_of (Shows w mark) = fitting_word w
word_of Neither = None

-- the number drawn, or how many operations are shown
abbrev pub number_shown : Touch → Option ℕ
number_shown (Draws w mark) = number_before mark
number_shown (Shows w mark) = fitting_number mark
number_shown Neither = None
